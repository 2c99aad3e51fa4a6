-- The run of a partition over the turns that were read, and what is said in it.
use Rattle.std.specs.Prelude.{◌≡◌, ◌⊎◌, ℕ, List, [], ◌∷◌, ◌++◌, replicate, Option, Some, None}
use Rattle.bridge_rule.specs.declared.limits.TheConstants.{LOGS}
use Rattle.bridge_rule.specs.Bridges.{new_bridge}
use Rattle.bridge_lines.specs.declared.action.Why.{Why}
use Rattle.bridge_lines.specs.declared.action.Why.TheVariants.{BadLine}
use Rattle.bridge_lines.specs.declared.beginning.Given.{Given}
use Rattle.bridge_lines.specs.declared.event.Event.{Event}
use Rattle.bridge_lines.specs.Acts.{Act, Over}
use Rattle.bridge_lines.specs.Givens.{given_in, given_of}
use Rattle.bridge_lines.specs.News.{news_of}
use Rattle.bridge_lines.specs.Starts.{Start, no_start, given_to}
use Rattle.bridge_lines.specs.TurnReading.{news_in}
use Rattle.bridge_turns.specs.declared.link.Link.TheVariants.{Away}
use Rattle.bridge_turns.specs.Partitions.{PartitionState, outcome_of}
use Rattle.bridge_turns.specs.Turns.{turned}
use Rattle.bridge_turns.specs.Laws.{Accepts}
use Rattle.bridge_turns.specs.Refusals.{Refuses}
use Rattle.bridge_serve.specs.declared.desk.TheConstants.{ROOM, WAITING}

-- a partition on its way: what it begins with, and what it is if it has begun
pub record DeskState : Type 0 where
  pub start : Start
  pub partition : Option PartitionState

abbrev pub desk_of : Start → Option PartitionState → DeskState
desk_of start partition = record { start = start; partition = partition }

-- a partition that begins
abbrev pub new_partition : Start → PartitionState
new_partition start = record {
  bridge = new_bridge start.machine start.last start.counts ROOM WAITING;
  link = Away;
  begun = record { name = []; sequence = 0; records = [] };
  published = replicate LOGS 0;
}

abbrev pub begun_of : Start → Option PartitionState → PartitionState
begun_of start None = new_partition start
begun_of start (Some partition) = partition

-- the partition that an event comes to: it begins if it hasn't
abbrev pub begun : DeskState → PartitionState
begun desk = begun_of desk.start desk.partition

-- ---- one turn

-- the turn gives something that a partition begins with, and it begins anew
pub record Gives (turn : List ℕ) (old new : DeskState) : Type 0 where
  pub given : Given
  pub reads : given_in turn ≡ Some (given_of given)
  pub new_is : new ≡ desk_of (given_to old.start given) None

-- the turn tells an event
pub record TellsEvent (turn : List ℕ) (event : Event) : Type 0 where
  pub gives_none : given_in turn ≡ None
  pub reads : news_in turn ≡ Some (news_of event)

-- the partition takes the event that the turn tells: its turn at that event
pub record Takes (turn : List ℕ) (old : DeskState) (before : List Act) (new : DeskState) (after : List Act) : Type 0 where
  pub event : Event
  pub tells : TellsEvent turn event
  pub accepts : Accepts (begun old) event
  pub new_is : new ≡ desk_of old.start (Some (turned event (outcome_of (begun old) before)).state)
  pub after_is : after ≡ (turned event (outcome_of (begun old) before)).said

-- a turn is answered
abbrev pub Answers : List ℕ → DeskState → List Act → DeskState → List Act → Type 0
Answers turn old before new after = (Gives turn old new × (after ≡ before)) ⊎ Takes turn old before new after

-- the partition refuses the event that the turn tells
pub record RefusesEvent (turn : List ℕ) (desk : DeskState) (why : Why) : Type 0 where
  pub event : Event
  pub tells : TellsEvent turn event
  pub refuses : Refuses (begun desk) event why

-- the turn gives nothing, and tells nothing
pub record IsNoTurn (turn : List ℕ) : Type 0 where
  pub gives_none : given_in turn ≡ None
  pub tells_none : news_in turn ≡ None

-- a turn isn't taken, for this reason
abbrev pub IsRefused : List ℕ → DeskState → Why → Type 0
IsRefused turn desk why = ((why ≡ BadLine) × IsNoTurn turn) ⊎ RefusesEvent turn desk why

-- ---- all turns

-- these bytes are turns, one after another, and each was answered: this was said, each answer ends with a dot
pub data Run (before : List Act) : List ℕ → DeskState → List Act → Type 0 where
  run_begins : Run before [] (desk_of no_start None) before
  run_goes_on : (read : List ℕ) → (old : DeskState) → (said : List Act) → Run before read old said
      → (turn : List ℕ) → (new : DeskState) → (after : List Act) → Answers turn old said new after
      → Run before (read ++ turn) new (after ++ Over ∷ [])
