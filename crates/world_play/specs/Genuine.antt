-- The played runs among the runs of worlds: what may be played, where its state is the end of a genuine run, and which
-- counts are in order.
use Rattle.std.specs.Prelude.{◌≡◌, ◌≤◌, ℕ, ◌*◌, List, map}
use Rattle.issuer_base.specs.declared.limits.TheConstants.{MAX_CARDS}
use Rattle.card_model.specs.declared.card.TheConstants.{LAST_COUNTER}
use Rattle.host_loading.specs.Books.{histories_of as book_histories}
use Rattle.world_net.specs.declared.event.Event.{Event}
use Rattle.world_net.specs.WorldState.{WorldState, histories_of}
use Rattle.world_net.specs.WorldRuns.{IsGenuineRun}
use Rattle.world_play.specs.declared.summary.Summary.{Summary}
use Rattle.world_play.specs.Play.{State}
use Rattle.world_play.specs.Setting.{issuer}

-- so many cards and steps may be played: there is a card, the issuer takes so many, and no card takes more steps than
-- it has counters
pub record CanBePlayed (cards steps : ℕ) : Type 0 where
  pub some : 1 ≤ cards
  pub few : cards ≤ MAX_CARDS
  pub counters : steps ≤ LAST_COUNTER * cards

-- a genuine run of worlds, under the run's issuer, ends with the state's cards and with its histories
pub record EndsGenuineRun (cards : ℕ) (state : State) : Type 0 where
  pub events : List Event
  pub world : WorldState
  pub run : IsGenuineRun (issuer cards) events world
  pub cards_are : world.cards ≡ map (λ player. player.card) state.players
  pub histories_are : histories_of world ≡ book_histories state.books

-- no card's scripts are halted, and the host counts no more commands as done than the cards ran
pub record CountsInOrder (summary : Summary) : Type 0 where
  pub none_halted : summary.halted ≡ 0
  pub done_ran : summary.done ≤ summary.ran
