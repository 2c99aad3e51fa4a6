-- The ways that playing a world ends, and a run whose words are no command.
use Rattle.std.proofs.Common.{◌≡◌, ℕ, List, refl, ⊎_elim}
use Rattle.answer_text.specs.declared.stop_line.Stop.TheVariants.{Usage, NoMemory}
use Rattle.desk_host.specs.SeenStores.{no_journals}
use Rattle.issuer_top.specs.declared.ending.Ending.{Ending}
use Rattle.issuer_top.specs.Opened.{OpenedNoInput}
use Rattle.issuer_top.specs.Played.{IsPlayed, IsWorldText, PlaysBy, ways_to_play}
use Rattle.issuer_top.specs.Refusing.{ways_to_refuse}
use Rattle.issuer_top.specs.Seen.{Seen}
use Rattle.issuer_top.specs.Stopping.{GivesText}
use Rattle.issuer_top.specs.Ways.{EndsBy}
use Rattle.issuer_top.proofs.EndingSteps.{ends_at_once, ends_by_text, StopsAtOnce}

-- the words are no command
pub ends_usage : (seen : Seen) (ending : Ending) → OpenedNoInput seen → seen.journals ≡ no_journals
    → StopsAtOnce seen Usage ending → EndsBy (ways_to_refuse seen) seen ending
ends_usage seen ending opened none_opened stopping =
    ends_at_once (ways_to_refuse seen) seen Usage ending
    (record { opened = opened; none_opened = none_opened; last = refl }) stopping

module _ (seen : Seen) (cards steps seed : ℕ) (opened : OpenedNoInput seen)
    (none_opened : seen.journals ≡ no_journals) where
  -- the text of what the world came to was written, or a front of it
  ends_played : (ending : Ending) (text : List ℕ) → IsWorldText cards steps seed text
      → GivesText seen.sink.held_before seen.sink.held_after seen.sink.faults_before seen.sink.faults_after text ending
      → EndsBy (ways_to_play cards steps seed seen) seen ending
  ends_played ending text is gives =
      let played : IsPlayed cards steps seed seen text =
      record { opened = opened; none_opened = none_opened; played = is } in
      ends_by_text (ways_to_play cards steps seed seen) seen ending text played played gives

  pub ends_playing : (ending : Ending)
      → PlaysBy cards steps seed seen.sink.held_before seen.sink.held_after seen.sink.faults_before
      seen.sink.faults_after ending → EndsBy (ways_to_play cards steps seed seen) seen ending
  ends_playing ending plays =
      ⊎_elim
      (λ told. ends_played ending told.0 told.1 told.2)
      (λ stopping.
      ends_at_once (ways_to_play cards steps seed seen) seen NoMemory ending
      (record { opened = opened; none_opened = none_opened; last = refl }) stopping)
      plays
