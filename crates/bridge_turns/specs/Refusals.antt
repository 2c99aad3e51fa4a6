-- Why a turn isn't taken.
use Rattle.std.specs.Prelude.{◌≡◌, ◌+◌, ◌<◌, ◌≤◌, true, length, map}
use Rattle.bridge_rule.specs.Logs.{known_of}
use Rattle.bridge_rule.specs.Bridges.{BridgeState, IsTold, IsServing, IsLearning, WaitsForKnown, are_quiet, steps_read, log_at, indexed}
use Rattle.bridge_lines.specs.declared.action.Why.{Why}
use Rattle.bridge_lines.specs.declared.action.Why.TheVariants.{Diverged, BadLine, OutOfTurn, NoRoom}
use Rattle.bridge_lines.specs.declared.event.Event.{Event}
use Rattle.bridge_lines.specs.declared.event.Event.TheVariants.{Has, Told, Connected, Lost, Called, Message, Loaded, Ended, Answered, Again}
use Rattle.bridge_lines.specs.declared.message.Message.{Message as AMessage}
use Rattle.bridge_lines.specs.declared.message.Message.TheVariants as of
use Rattle.bridge_lines.specs.declared.records.Records.{Records}
use Rattle.bridge_turns.specs.Partitions.{PartitionState}
use Rattle.bridge_turns.specs.Turns.{lasts}

-- it serves, and one of the records that count isn't the one that it knows
abbrev pub IsUnlike : BridgeState → Records → Type 0
IsUnlike bridge message =
    (IsServing bridge.role → are_quiet (steps_read bridge message.name.items (map indexed message.records.items)) ≡ true) → ⊥

abbrev pub ReadsUnlike : BridgeState → AMessage → Type 0
ReadsUnlike bridge (of.Opening opening) = ⊥
ReadsUnlike bridge (of.Records records) = IsUnlike bridge records.now
ReadsUnlike bridge (of.Mark word) = ⊥
ReadsUnlike bridge of.Nothing = ⊥

-- a record counts that the host which serves didn't record
abbrev pub HasDiverged : PartitionState → Event → Type 0
HasDiverged state (Message message) = ReadsUnlike state.bridge message
HasDiverged state (Has one) = ⊥
HasDiverged state Told = ⊥
HasDiverged state (Connected name) = ⊥
HasDiverged state Lost = ⊥
HasDiverged state (Called name) = ⊥
HasDiverged state Loaded = ⊥
HasDiverged state Ended = ⊥
HasDiverged state (Answered answer) = ⊥
HasDiverged state Again = ⊥

-- the rule doesn't take the event now: a record that isn't the next one of its journal, or of journals that the bridge
-- knows; a message before it knows them; an answer that names a record which it doesn't know
abbrev pub IsOutOfTurn : PartitionState → Event → Type 0
IsOutOfTurn state (Has one) =
    IsLearning state.bridge.role → one.index ≡ known_of (log_at state.bridge.logs one.shard) → ⊥
IsOutOfTurn state (Message message) = IsTold state.bridge.role → ⊥
IsOutOfTurn state (Answered answer) = IsServing state.bridge.role × (WaitsForKnown state.bridge.logs answer.place → ⊥)
IsOutOfTurn state Told = ⊥
IsOutOfTurn state (Connected name) = ⊥
IsOutOfTurn state Lost = ⊥
IsOutOfTurn state (Called name) = ⊥
IsOutOfTurn state Loaded = ⊥
IsOutOfTurn state Ended = ⊥
IsOutOfTurn state Again = ⊥

-- there is no room for one more record of its journal beyond those that count, or for what would wait
abbrev pub LacksRoom : PartitionState → Event → Type 0
LacksRoom state (Has one) =
    (log_at state.bridge.logs one.shard).room ≤ length (log_at state.bridge.logs one.shard).beyond
LacksRoom state Loaded =
    IsServing state.bridge.role × (state.bridge.room < length state.bridge.held + length (lasts state.bridge.logs))
LacksRoom state (Answered answer) = IsServing state.bridge.role × (state.bridge.room ≤ length state.bridge.held)
LacksRoom state Told = ⊥
LacksRoom state (Connected name) = ⊥
LacksRoom state Lost = ⊥
LacksRoom state (Called name) = ⊥
LacksRoom state (Message message) = ⊥
LacksRoom state Ended = ⊥
LacksRoom state Again = ⊥

-- the event isn't taken, for this reason
abbrev pub Refuses : PartitionState → Event → Why → Type 0
Refuses state event Diverged = HasDiverged state event
Refuses state event BadLine = ⊥
Refuses state event OutOfTurn = IsOutOfTurn state event
Refuses state event NoRoom = LacksRoom state event
