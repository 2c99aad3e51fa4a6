-- A turn as events of the machine that the partition stands for.
use Rattle.std.specs.Prelude.{◌≡◌, ◌<◌, ℕ, ◌==◌, if◌then◌else◌, true, false, List, [], ◌∷◌, ◌++◌, map, length, take, Option, Some, None, All, Contains}
use Rattle.one_history.specs.Streams.{Text, Word, OfBarrier, OfRecords}
use Rattle.one_history.specs.Machines.{Answer, World}
use Rattle.one_history.specs.Events.{Successors, Event as LawEvent, CanCall, AreAllowed, after}
use Rattle.bridge_rule.specs.declared.opening.Opening.{Opening}
use Rattle.bridge_rule.specs.declared.held.Held.{Held}
use Rattle.bridge_rule.specs.Openings.{barrier_of}
use Rattle.bridge_rule.specs.Logs.{known_of}
use Rattle.bridge_rule.specs.Bridges.{BridgeState, StandsIn, IsTold, IsServing, IsLearning, WaitsForKnown, is_told, serves, waited_for, log_at, places_of}
use Rattle.bridge_rule.specs.Bridges.{place_of, are_quiet, steps_read, logs_read, indexed}
use Rattle.bridge_rule.specs.Events.{IsNext, KnowsAll, IsNextKnown}
use Rattle.bridge_lines.specs.declared.event.Event.{Event}
use Rattle.bridge_lines.specs.declared.event.Event.TheVariants.{Has, Told, Connected, Lost, Called, Message, Loaded, Ended, Answered, Again}
use Rattle.bridge_lines.specs.declared.message.Message.{Message as AMessage}
use Rattle.bridge_lines.specs.declared.message.Message.TheVariants as of
use Rattle.bridge_lines.specs.declared.records.Records.{Records}
use Rattle.bridge_lines.specs.Messages.{message_of}
use Rattle.bridge_lines.specs.Acts.{Act, Put, Cut, PublishBarrier, PublishRecords, PublishMark, PublishNothing, Position, Count, Ready, Begin, End, Reply}
use Rattle.bridge_lines.specs.Acts.{Stop, Over}
use Rattle.bridge_turns.specs.Partitions.{PartitionState, Outcome, outcome_of, gone}
use Rattle.bridge_turns.specs.Turns.{turned}

-- no host records in a turn: what a host records happens between turns
abbrev pub NothingFollows : Successors
NothingFollows shard history text = ⊥

-- the barrier that the bridge waits for was made
abbrev pub IsMade : Option Opening → World → Type 0
IsMade None world = Unit {0}
IsMade (Some own) world = Contains world.made (OfBarrier (barrier_of own))

-- a partition stands for the machine of its bridge's name, and no message is begun
pub record Stands (state : PartitionState) (world : World) : Type 0 where
  pub bridge : StandsIn state.bridge world
  pub made : IsMade (waited_for state.bridge.role) world
  pub quiet : state.begun.records ≡ []

-- what a node is believed for, event by event
abbrev pub IsSo : PartitionState → Event → World → Type 0
-- the record is the next one of its journal that the bridge doesn't know
IsSo state (Has one) world = IsNextKnown state.bridge world one.shard one.text.items
-- a bridge that wasn't told its journals knows all of them then
IsSo state Told world = is_told state.bridge.role ≡ false → KnowsAll state.bridge world
IsSo state (Connected name) world = Unit {0}
IsSo state Lost world = Unit {0}
-- no barrier had the name, and it isn't empty
IsSo state (Called name) world = CanCall world name.items
-- the message is the stream's next one
IsSo state (Message message) world = IsNext world state.bridge.machine (message_of message)
IsSo state Loaded world = Unit {0}
-- a host that ended leaves its journals as they are: what is gone of them went before
IsSo state Ended world = Unit {0}
IsSo state (Answered answer) world = Unit {0}
IsSo state Again world = Unit {0}

-- what records have to be that are taken: of the bridge's logs; and if it serves, it has each of them that counts
abbrev pub AcceptsRecords : BridgeState → Records → Type 0
AcceptsRecords bridge message =
    All (λ one. one.shard < length bridge.logs) (map indexed message.records.items)
    × (IsServing bridge.role → are_quiet (steps_read bridge message.name.items (map indexed message.records.items)) ≡ true)

abbrev pub AcceptsMessage : BridgeState → AMessage → Type 0
AcceptsMessage bridge (of.Opening opening) = Unit {0}
AcceptsMessage bridge (of.Records records) = AcceptsRecords bridge records.now
AcceptsMessage bridge (of.Mark word) = Unit {0}
AcceptsMessage bridge of.Nothing = Unit {0}

-- what an event has to be that is taken
abbrev pub Accepts : PartitionState → Event → Type 0
Accepts state (Has one) =
    IsLearning state.bridge.role × (one.shard < length state.bridge.logs)
    × (one.index ≡ known_of (log_at state.bridge.logs one.shard))
Accepts state Told = Unit {0}
Accepts state (Connected name) = Unit {0}
Accepts state Lost = Unit {0}
Accepts state (Called name) = Unit {0}
Accepts state (Message message) = IsTold state.bridge.role × AcceptsMessage state.bridge message
Accepts state Loaded = Unit {0}
Accepts state Ended = Unit {0}
Accepts state (Answered answer) = IsServing state.bridge.role → WaitsForKnown state.bridge.logs answer.place
Accepts state Again = Unit {0}

-- a shard's journal after a node did this
abbrev pub carried : ℕ → Act → List Text → List Text
carried shard (Put one) journal = if one.shard == shard then journal ++ one.text ∷ [] else journal
carried shard (Cut other length) journal = if other == shard then take length journal else journal
carried shard (PublishBarrier barrier) journal = journal
carried shard (PublishRecords name sequence records) journal = journal
carried shard (PublishMark word) journal = journal
carried shard PublishNothing journal = journal
carried shard (Position barrier) journal = journal
carried shard (Count other number) journal = journal
carried shard Ready journal = journal
carried shard Begin journal = journal
carried shard End journal = journal
carried shard (Reply number) journal = journal
carried shard (Stop why) journal = journal
carried shard Over journal = journal

abbrev pub all_carried : ℕ → List Act → List Text → List Text
all_carried shard [] journal = journal
all_carried shard (act ∷ acts) journal = all_carried shard acts (carried shard act journal)

-- what is published was made: so it may come to the stream, late, twice or never; marks count nothing
abbrev pub IsOfMade : World → Act → Type 0
IsOfMade world (PublishBarrier barrier) = Contains world.made (OfBarrier barrier)
IsOfMade world (PublishRecords name sequence records) = Contains world.made (OfRecords name records)
IsOfMade world (Put one) = Unit {0}
IsOfMade world (Cut shard length) = Unit {0}
IsOfMade world (PublishMark word) = Unit {0}
IsOfMade world PublishNothing = ⊥
IsOfMade world (Position barrier) = Unit {0}
IsOfMade world (Count shard number) = Unit {0}
IsOfMade world Ready = Unit {0}
IsOfMade world Begin = Unit {0}
IsOfMade world End = Unit {0}
IsOfMade world (Reply number) = Unit {0}
IsOfMade world (Stop why) = Unit {0}
IsOfMade world Over = Unit {0}

abbrev pub AreOfMade : World → List Act → Type 0
AreOfMade world [] = Unit {0}
AreOfMade world (act ∷ acts) = IsOfMade world act × AreOfMade world acts

-- what waited and went, whose records count: replies were sent that name those records
pub record AreReplies (old new : World) (went : List Held) : Type 0 where
  pub answers : List Answer
  pub sent : new.sent ≡ old.sent ++ answers
  pub places : map place_of answers ≡ places_of went

-- the way from one partition to another is a run of events: what is said carries them out
pub record Does (name : Word) (old new : Outcome) (went : List Held) (world : World) : Type 0 where
  pub acts : List Act
  pub said : new.said ≡ old.said ++ acts
  pub events : List LawEvent
  pub allowed : AreAllowed NothingFollows world events
  pub stands : Stands new.state (after world events)
  pub journals : (shard : ℕ) → ((after world events).machines name).journals shard
      ≡ all_carried shard acts ((world.machines name).journals shard)
  pub made : AreOfMade (after world events) acts
  pub replies : AreReplies world (after world events) went

-- what goes at a message
abbrev pub gone_at : PartitionState → AMessage → List Held
gone_at state (of.Opening opening) = []
gone_at state (of.Records records) =
    if serves state.bridge.role
    then gone (logs_read state.bridge records.now.name.items (map indexed records.now.records.items)) state.bridge.held
    else []
gone_at state (of.Mark word) = []
gone_at state of.Nothing = []

-- what goes in a turn
abbrev pub went : PartitionState → Event → List Held
went state (Has one) = []
went state Told = []
went state (Connected name) = []
went state Lost = []
went state (Called name) = []
went state (Message message) = gone_at state message
went state Loaded = []
went state Ended = []
went state (Answered answer) =
    if serves state.bridge.role
    then gone state.bridge.logs (state.bridge.held ++ record { reply = Some answer.number; place = answer.place } ∷ [])
    else []
went state Again = []

-- in every world in which the partition stands for its machine and the event is so, its turn is a run of events of that
-- machine, and what is said carries them out
abbrev pub IsTurn : PartitionState → Event → Type 0
IsTurn state event =
    (world : World) (said : List Act) → Stands state world → IsSo state event world → Accepts state event
    → Does state.bridge.machine (outcome_of state said) (turned event (outcome_of state said)) (went state event) world
