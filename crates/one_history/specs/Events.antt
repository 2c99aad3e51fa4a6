-- What happens to machines and their stream: the events, when a world allows one, and what it changes.
use Rattle.std.specs.Prelude.{◌≡◌, ◌≢◌, ℕ, ◌+◌, ◌<◌, ◌≤◌, ◌⊎◌, ◌==◌, if◌then◌else◌, List, [], ◌∷◌, ◌++◌, length, take, drop, slice_get, Some, All, Contains}
use Rattle.one_history.specs.Prefixes.{IsPrefix}
use Rattle.one_history.specs.Streams.{Text, Word, Barrier, Indexed, Message, OfBarrier, OfRecords, Count, next_count, opens, is_barrier, CountsNothing}
use Rattle.one_history.specs.Machines.{Answer, up_to, Stage, Follows, Begins, Serves, Machine, World, count_at, count_of, next_message, with_machine, Knows, new_world}

-- which record may follow a history of its shard: by the shard's number, the history and the record
abbrev pub Successors : Type 1
Successors = ℕ → List Text → Text → Type 0

-- an event. Each but the first two is of the machine with this name
pub data Event : Type 0 where
  -- a message that a machine made is the stream's next one: late, for a second time, or before others made earlier
  Write : (message : Message) → Event
  -- somebody else's message, which counts nothing, is the stream's next one
  Intrude : (message : Message) → Event
  -- it reads the stream's next message, and then has these journals
  Read : (name : Word) → (journals : ℕ → List Text) → Event
  -- it makes a barrier with this number and this name, and waits until that counts
  Call : (name : Word) → (number : ℕ) → (barrier : Word) → Event
  -- its host appends a record to a journal
  Record : (name : Word) → (shard : ℕ) → (text : Text) → Event
  -- its bridge reads on in its journals, and then knows so many records of each
  Look : (name : Word) → (known : ℕ → ℕ) → Event
  -- its bridge makes a message of records that it knows
  Publish : (name : Word) → (records : List Indexed) → Event
  -- its host's answer waits behind all that wait already
  Hold : (name : Word) → (answer : Answer) → Event
  -- it sends the reply of the first answer that waits
  Reply : (name : Word) → (answer : Answer) → Event
  -- its host ends: each journal has at most so many records then, and no answer waits
  End : (name : Word) → (keep : ℕ → ℕ) → Event
  -- it loses its connection or stops serving for another reason
  Part : (name : Word) → Event
  -- its position on the disk says from now on that it has read so many messages
  Keep : (name : Word) → (place : ℕ) → Event
  -- it dies and starts again: each journal has at most so many records then
  Crash : (name : Word) → (keep : ℕ → ℕ) → Event
  -- it starts from copies of another machine's position and journals: each has at most so many records
  Copy : (name : Word) → (other : Word) → (keep : ℕ → ℕ) → Event

-- a journal has what counts already and stays as it is, or else it becomes what counts
abbrev pub IsSettled : (counts old new : List Text) → Type 0
IsSettled counts old new =
    (IsPrefix counts old × (new ≡ old)) ⊎ ((IsPrefix counts old → ⊥) × (new ≡ counts))

-- what counts with the message that a machine reads next
abbrev pub count_with_next : World → Machine → Count
count_with_next world machine = next_count (count_at world machine.read) (next_message world machine)

-- the machine with this name serves by this barrier
pub record IsServing (world : World) (name : Word) : Type 0 where
  pub barrier : Barrier
  pub stage_is : (world.machines name).stage ≡ Serves barrier

-- the stream has a next message for the machine, and the new journals are settled by what counts with it
pub record CanRead (world : World) (name : Word) (journals : ℕ → List Text) : Type 0 where
  pub unread : (world.machines name).read < length world.stream
  pub settled : (shard : ℕ) → IsSettled ((count_with_next world (world.machines name)).histories shard)
      ((world.machines name).journals shard) (journals shard)

-- the barrier's name is a new one, and not empty
pub record CanCall (world : World) (barrier : Word) : Type 0 where
  pub unused : Contains world.names barrier → ⊥
  pub not_empty : barrier ≢ []

-- the machine serves, and the record may follow those of its host's journal
pub record CanRecord (MayFollow : Successors) (world : World) (name : Word) (shard : ℕ) (text : Text) : Type 0 where
  pub serving : IsServing world name
  pub follows : MayFollow shard ((world.machines name).journals shard) text

-- the machine serves, and its bridge knows no less than before, and no more than there is
pub record CanLook (world : World) (name : Word) (known : ℕ → ℕ) : Type 0 where
  pub serving : IsServing world name
  pub more : (shard : ℕ) → (world.machines name).known shard ≤ known shard
  pub within : (shard : ℕ) → known shard ≤ length ((world.machines name).journals shard)

-- the machine serves, and its bridge knows each of the records
pub record CanPublish (world : World) (name : Word) (records : List Indexed) : Type 0 where
  pub serving : IsServing world name
  pub known : All (Knows (world.machines name)) records

-- the machine serves, and the records that its bridge knows begin with those that the answer stands on
pub record CanHold (world : World) (name : Word) (answer : Answer) : Type 0 where
  pub serving : IsServing world name
  pub stands : IsPrefix (up_to answer)
      (take ((world.machines name).known answer.shard) ((world.machines name).journals answer.shard))

-- the machine serves, the answer is the first one that waits, and its record's index counts as far as it has read
pub record CanReply (world : World) (name : Word) (answer : Answer) : Type 0 where
  pub serving : IsServing world name
  pub others : List Answer
  pub held_is : (world.machines name).held ≡ answer ∷ others
  pub counts : length answer.before
      < length ((count_at world (world.machines name).read).histories answer.shard)

-- the machine serves, and its journals keep what its bridge knows
pub record CanEnd (world : World) (name : Word) (keep : ℕ → ℕ) : Type 0 where
  pub serving : IsServing world name
  pub keeps : (shard : ℕ) → (world.machines name).known shard ≤ keep shard

-- what is kept of a machine's journals has what counts at the machine's position
abbrev pub KeepsPosition : World → Machine → (ℕ → ℕ) → Type 0
KeepsPosition world machine keep =
    (shard : ℕ) → length ((count_at world machine.kept).histories shard) ≤ keep shard

-- the world allows this event
abbrev pub IsAllowed : (MayFollow : Successors) → World → Event → Type 0
IsAllowed MayFollow world (Write message) = Contains world.made message
IsAllowed MayFollow world (Intrude message) = CountsNothing (count_of world) message
IsAllowed MayFollow world (Read name journals) = CanRead world name journals
IsAllowed MayFollow world (Call name number barrier) = CanCall world barrier
IsAllowed MayFollow world (Record name shard text) = CanRecord MayFollow world name shard text
IsAllowed MayFollow world (Look name known) = CanLook world name known
IsAllowed MayFollow world (Publish name records) = CanPublish world name records
IsAllowed MayFollow world (Hold name answer) = CanHold world name answer
IsAllowed MayFollow world (Reply name answer) = CanReply world name answer
IsAllowed MayFollow world (End name keep) = CanEnd world name keep
IsAllowed MayFollow world (Part name) = Unit {0}
IsAllowed MayFollow world (Keep name place) = place ≤ (world.machines name).read
IsAllowed MayFollow world (Crash name keep) = KeepsPosition world (world.machines name) keep
IsAllowed MayFollow world (Copy name other keep) = KeepsPosition world (world.machines other) keep

-- where a machine stands after a barrier counts: it serves if that is its own, and else it follows
abbrev pub stage_after : Stage → Barrier → Stage
stage_after Follows barrier = Follows
stage_after (Begins own) barrier = if is_barrier own barrier then Serves own else Follows
stage_after (Serves own) barrier = Follows

-- a machine after a barrier that counts: it knows just what counts, and no answer waits
abbrev pub turned : Machine → Count → (ℕ → List Text) → Machine
turned machine count journals = record {
  read = machine.read + 1;
  kept = machine.kept;
  journals = journals;
  stage = stage_after machine.stage count.barrier;
  known = λ shard. length (count.histories shard);
  held = [];
}

-- a machine that reads a message
abbrev pub reads : Machine → Count → Message → (ℕ → List Text) → Machine
reads machine count message journals =
    if opens count.barrier message
    then turned machine (next_count count message) journals
    else record machine { read = machine.read + 1; journals = journals }

-- a machine that makes a barrier
abbrev pub calls : Machine → Barrier → Machine
calls machine barrier = record machine { stage = Begins barrier; held = [] }

-- these journals with one more record of a shard
abbrev pub appended : (ℕ → List Text) → ℕ → Text → ℕ → List Text
appended journals shard text other = if other == shard then journals other ++ text ∷ [] else journals other

-- these journals with so many records at most
abbrev pub truncated : (ℕ → List Text) → (ℕ → ℕ) → ℕ → List Text
truncated journals keep shard = take (keep shard) (journals shard)

-- a machine that starts from what is kept of a position and journals
abbrev pub started : Machine → (ℕ → ℕ) → Machine
started machine keep = record {
  read = machine.kept;
  kept = machine.kept;
  journals = truncated machine.journals keep;
  stage = Follows;
  known = λ shard. 0;
  held = [];
}

-- the name by which a machine serves
abbrev pub name_of : Stage → Word
name_of Follows = []
name_of (Begins barrier) = []
name_of (Serves barrier) = barrier.name

-- the world after a machine makes a barrier
abbrev pub after_call : World → Word → Barrier → World
after_call world name barrier = record (with_machine world name (calls (world.machines name) barrier)) {
  made = world.made ++ OfBarrier barrier ∷ [];
  names = world.names ++ barrier.name ∷ [];
}

-- the world after an event
abbrev pub next : World → Event → World
next world (Write message) = record world { stream = world.stream ++ message ∷ [] }
next world (Intrude message) = record world { stream = world.stream ++ message ∷ [] }
next world (Read name journals) =
    with_machine world name (reads (world.machines name) (count_at world (world.machines name).read)
    (next_message world (world.machines name)) journals)
next world (Call name number barrier) =
    after_call world name (record { number = number; name = barrier; machine = name })
next world (Record name shard text) =
    with_machine world name (record (world.machines name) {
      journals = appended (world.machines name).journals shard text;
    })
next world (Look name known) = with_machine world name (record (world.machines name) { known = known })
next world (Publish name records) =
    record world { made = world.made ++ OfRecords (name_of (world.machines name).stage) records ∷ [] }
next world (Hold name answer) =
    with_machine world name (record (world.machines name) { held = (world.machines name).held ++ answer ∷ [] })
next world (Reply name answer) =
    record (with_machine world name (record (world.machines name) { held = drop 1 (world.machines name).held }))
    { sent = world.sent ++ answer ∷ [] }
next world (End name keep) =
    with_machine world name (record (world.machines name) {
      journals = truncated (world.machines name).journals keep;
      held = [];
    })
next world (Part name) = with_machine world name (record (world.machines name) { stage = Follows; held = [] })
next world (Keep name place) = with_machine world name (record (world.machines name) { kept = place })
next world (Crash name keep) = with_machine world name (started (world.machines name) keep)
next world (Copy name other keep) = with_machine world name (started (world.machines other) keep)

-- the world after these events
abbrev pub after : World → List Event → World
after world [] = world
after world (event ∷ events) = after (next world event) events

-- each of these events is allowed where it happens
abbrev pub AreAllowed : (MayFollow : Successors) → World → List Event → Type 0
AreAllowed MayFollow world [] = Unit {0}
AreAllowed MayFollow world (event ∷ events) =
    IsAllowed MayFollow world event × AreAllowed MayFollow (next world event) events

-- a history is legal if each record may follow those before it
abbrev pub IsLegal : (MayFollow : Successors) → ℕ → List Text → Type 0
IsLegal MayFollow shard history =
    (index : ℕ) (text : Text) → slice_get history index ≡ Some text → MayFollow shard (take index history) text

-- a run of a partition: its first journals are legal, and each event is allowed
pub record IsRun (MayFollow : Successors) (base : ℕ → List Text) (events : List Event) : Type 0 where
  pub legal : (shard : ℕ) → IsLegal MayFollow shard (base shard)
  pub allowed : AreAllowed MayFollow (new_world base) events

-- the world at the end of a run
abbrev pub end_of : (ℕ → List Text) → List Event → World
end_of base events = after (new_world base) events

-- what holds of the world at the end of each run
abbrev pub AfterEachRun : (MayFollow : Successors) → (World → Type 0) → Type 0
AfterEachRun MayFollow Holds =
    (base : ℕ → List Text) (events : List Event) → IsRun MayFollow base events → Holds (end_of base events)
