-- What a bridge does, as events of the machine that it stands for.
use Rattle.std.specs.Prelude.{◌≡◌, ◌≢◌, ℕ, ◌+◌, ◌<◌, ◌==◌, if◌then◌else◌, List, [], length, take, slice_get, slice_index_or, Option, Some, None}
use Rattle.one_history.specs.Prefixes.{IsPrefix}
use Rattle.one_history.specs.Streams.{Text, Word, Indexed, Message}
use Rattle.one_history.specs.Machines.{Answer, World, count_at, next_message}
use Rattle.one_history.specs.Events.{Event, Write, Intrude, Read, Call, Record, Look, Publish, Hold, Reply, End, Part, Keep, Crash, Copy}
use Rattle.one_history.specs.Events.{CanRead, CanLook, CanPublish, CanHold, CanReply, CanEnd, next, IsRun, end_of}
use Rattle.one_history.specs.Keys.{Keys, IsFirst}
use Rattle.bridge_rule.specs.declared.held.Place.{Place}
use Rattle.bridge_rule.specs.declared.opening.Opening.{Opening}
use Rattle.bridge_rule.specs.declared.role.Role.{Role}
use Rattle.bridge_rule.specs.declared.role.Role.TheVariants.{Untold, Following, Beginning, Serving}
use Rattle.bridge_rule.specs.Openings.{barrier_of}
use Rattle.bridge_rule.specs.Logs.{known_of}
use Rattle.bridge_rule.specs.Bridges.{BridgeState, StandsIn, log_at, place_of}

-- the stream's next message for the machine with this name
pub record IsNext (world : World) (name : Word) (message : Message) : Type 0 where
  pub unread : (world.machines name).read < length world.stream
  pub message_is : next_message world (world.machines name) ≡ message

-- the machine may read its next message and then have these journals, and the bridge stands for it then
pub record DoesRead (bridge : BridgeState) (world : World) (journals : ℕ → List Text) : Type 0 where
  pub can : CanRead world bridge.machine journals
  pub stands : StandsIn bridge (next world (Read bridge.machine journals))

-- in every world: if the bridge stands for its machine, and this is the next message, the machine reads it, and its
-- journals become these
abbrev pub ReadsMessage : (old new : BridgeState) → Message → ((ℕ → List Text) → ℕ → List Text) → Type 0
ReadsMessage old new message journals_after =
    (world : World) → StandsIn old world → IsNext world old.machine message
    → DoesRead new world (journals_after (world.machines old.machine).journals)

-- the bridge stands for a machine at the end of some run, and this is the next message there
pub record IsOfARun (bridge : BridgeState) (message : Message) : Type 0 where
  pub keys : Keys
  pub base : ℕ → List Text
  pub events : List Event
  pub run : IsRun (IsFirst keys) base events
  pub stands : StandsIn bridge (end_of base events)
  pub is_next : IsNext (end_of base events) bridge.machine message

-- the bridge knows as many records of each journal as there are
abbrev pub KnowsAll : BridgeState → World → Type 0
KnowsAll bridge world =
    (shard : ℕ) → length ((world.machines bridge.machine).journals shard) ≡ known_of (log_at bridge.logs shard)

-- this is the record of the journal after those that the bridge knows
abbrev pub IsNextKnown : BridgeState → World → ℕ → Text → Type 0
IsNextKnown bridge world shard text =
    slice_get ((world.machines bridge.machine).journals shard) (known_of (log_at bridge.logs shard)) ≡ Some text

-- one more record is known of a shard
abbrev pub one_more : (ℕ → ℕ) → ℕ → ℕ → ℕ
one_more known shard other = if other == shard then known other + 1 else known other

-- the machine's bridge reads on in a journal, and the bridge stands for it then
pub record DoesLook (bridge : BridgeState) (world : World) (shard : ℕ) : Type 0 where
  pub can : CanLook world bridge.machine (one_more (world.machines bridge.machine).known shard)
  pub stands : StandsIn bridge
      (next world (Look bridge.machine (one_more (world.machines bridge.machine).known shard)))

-- a bridge that serves reads on; one that wasn't told all of its journals knows more of the same ones
abbrev pub DoesLearn : Role → BridgeState → World → ℕ → Type 0
DoesLearn Untold bridge world shard = StandsIn bridge world
DoesLearn Following bridge world shard = Unit {0}
DoesLearn (Beginning own) bridge world shard = Unit {0}
DoesLearn (Serving own) bridge world shard = DoesLook bridge world shard

-- the answer that names the record at this place of the journals
abbrev pub answer_at : (ℕ → List Text) → Place → Answer
answer_at journals place = record {
  shard = place.shard;
  before = take place.index (journals place.shard);
  text = slice_index_or (journals place.shard) place.index [];
}

-- the answer waits, and the bridge stands for the machine then
pub record DoesWait (bridge : BridgeState) (world : World) (place : Place) : Type 0 where
  pub can : CanHold world bridge.machine (answer_at (world.machines bridge.machine).journals place)
  pub stands : StandsIn bridge
      (next world (Hold bridge.machine (answer_at (world.machines bridge.machine).journals place)))

-- a reply that waits for a record is an answer that waits; the law knows nothing else that waits
abbrev pub DoesHold : BridgeState → World → Option ℕ → Option Place → Type 0
DoesHold bridge world None place = StandsIn bridge world
DoesHold bridge world (Some reply) None = StandsIn bridge world
DoesHold bridge world (Some reply) (Some place) = DoesWait bridge world place

-- the reply of the first answer that waits is sent, which names the record at this place
pub record DoesSend (bridge : BridgeState) (world : World) (place : Place) : Type 0 where
  pub answer : Answer
  pub place_is : place_of answer ≡ place
  pub can : CanReply world bridge.machine answer
  pub stands : StandsIn bridge (next world (Reply bridge.machine answer))

-- what waited goes
abbrev pub DoesReply : BridgeState → World → Option ℕ → Option Place → Type 0
DoesReply bridge world None place = StandsIn bridge world
DoesReply bridge world (Some reply) None = StandsIn bridge world
DoesReply bridge world (Some reply) (Some place) = DoesSend bridge world place

-- the machine's host ends, and the bridge stands for it then
pub record DoesEnd (bridge : BridgeState) (world : World) (keep : ℕ → ℕ) : Type 0 where
  pub can : CanEnd world bridge.machine keep
  pub stands : StandsIn bridge (next world (End bridge.machine keep))

-- a position states what counts where the machine's position is, and its journals have that
pub record IsPosition (world : World) (name : Word) (last : Opening) (counts : List ℕ) : Type 0 where
  pub last_is : (count_at world (world.machines name).kept).barrier ≡ barrier_of last
  pub counts_are : (shard : ℕ) → slice_index_or counts shard 0
      ≡ length ((count_at world (world.machines name).kept).histories shard)
  pub journals : (shard : ℕ) → IsPrefix ((count_at world (world.machines name).kept).histories shard)
      ((world.machines name).journals shard)

-- the machine makes a message of these records, and the bridge stands for it then
pub record DoesPublish (bridge : BridgeState) (world : World) (records : List Indexed) : Type 0 where
  pub can : CanPublish world bridge.machine records
  pub stands : StandsIn bridge (next world (Publish bridge.machine records))

-- an event of the stream, or of another machine than the one with this name
abbrev pub IsOfAnother : Word → Event → Type 0
IsOfAnother name (Write message) = Unit {0}
IsOfAnother name (Intrude message) = Unit {0}
IsOfAnother name (Read other journals) = name ≢ other
IsOfAnother name (Call other number barrier) = name ≢ other
IsOfAnother name (Record other shard text) = name ≢ other
IsOfAnother name (Look other known) = name ≢ other
IsOfAnother name (Publish other records) = name ≢ other
IsOfAnother name (Hold other answer) = name ≢ other
IsOfAnother name (Reply other answer) = name ≢ other
IsOfAnother name (End other keep) = name ≢ other
IsOfAnother name (Part other) = name ≢ other
IsOfAnother name (Keep other place) = name ≢ other
IsOfAnother name (Crash other keep) = name ≢ other
IsOfAnother name (Copy other from keep) = name ≢ other
