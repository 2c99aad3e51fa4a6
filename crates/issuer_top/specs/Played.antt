-- How a run ends that plays a world.
use Rattle.std.specs.Prelude.{◌≡◌, ◌⊎◌, ℕ, List, Option}
use Rattle.issuer_base.specs.OutsideFaults.{Rose}
use Rattle.answer_text.specs.StopText.{stop_text}
use Rattle.answer_text.specs.declared.stop_line.Stop.{Stop}
use Rattle.answer_text.specs.declared.stop_line.Stop.TheVariants.{NoMemory}
use Rattle.world_play.specs.declared.summary.Summary.{Summary}
use Rattle.world_play.specs.Genuine.{CountsInOrder}
use Rattle.world_play.specs.Play.{ComesTo}
use Rattle.world_play.specs.SummaryText.{summary_text}
use Rattle.command_line.specs.Command.{IsWorld}
use Rattle.desk_host.specs.SeenStores.{no_journals}
use Rattle.issuer_top.specs.declared.ending.Ending.{Ending}
use Rattle.issuer_top.specs.Opened.{OpenedNoInput}
use Rattle.issuer_top.specs.Stopping.{GivesStop, GivesText}
use Rattle.issuer_top.specs.Seen.{Seen}
use Rattle.issuer_top.specs.Ways.{Ways, Runs}

-- the text of what a world of so many cards and steps comes to with this seed: its eleven counts, which are in order,
-- since its cards and histories are those at the end of a genuine run
pub record IsWorldText (cards steps seed : ℕ) (text : List ℕ) : Type 0 where
  pub summary : Summary
  pub comes_to : ComesTo cards steps seed summary
  pub in_order : CountsInOrder summary
  pub text_is : text ≡ summary_text summary

-- the sink was given the text of what a world comes to, or the last line of a run without memory
abbrev pub PlaysBy : ℕ → ℕ → ℕ → Option (List ℕ) → Option (List ℕ) → ℕ → ℕ → Ending → Type 0
PlaysBy cards steps seed held_before held_after faults_before faults_after ending =
    ((text : List ℕ) × IsWorldText cards steps seed text
    × GivesText held_before held_after faults_before faults_after text ending)
    ⊎ GivesStop held_before held_after faults_before faults_after NoMemory ending

-- ---- the ways to end

-- status 0: a world was played, and this is the text of what it came to; nothing was opened
pub record IsPlayed (cards steps seed : ℕ) (seen : Seen) (text : List ℕ) : Type 0 where
  pub opened : OpenedNoInput seen
  pub none_opened : seen.journals ≡ no_journals
  pub played : IsWorldText cards steps seed text

-- status 7: no memory was left for a world; nothing was opened
pub record CannotPlay (seen : Seen) (text : List ℕ) : Type 0 where
  pub opened : OpenedNoInput seen
  pub none_opened : seen.journals ≡ no_journals
  pub last : text ≡ stop_text NoMemory

-- how a run stops
abbrev pub StopsToPlay : Seen → Stop → List ℕ → Type 0
StopsToPlay seen NoMemory text = CannotPlay seen text
StopsToPlay seen stop text = ⊥

abbrev pub ways_to_play : ℕ → ℕ → ℕ → Seen → Ways
ways_to_play cards steps seed seen = record {
  IsDone = IsPlayed cards steps seed seen;
  Stops = StopsToPlay seen;
  IsDue = IsPlayed cards steps seed seen;
}

-- ---- the command

-- the sink counted no fault
abbrev pub PlaysInOrder : Seen → Type 0
PlaysInOrder seen = Rose seen.sink.faults_before seen.sink.faults_after → ⊥

-- if the words are the command to play a world, with these numbers, the run ends in one of its ways
abbrev pub RunsWorld : List (List ℕ) → ℕ → Seen → Type 0
RunsWorld words status seen = (cards steps seed : ℕ) → IsWorld words cards steps seed
    → Runs (ways_to_play cards steps seed seen) (PlaysInOrder seen) status seen
