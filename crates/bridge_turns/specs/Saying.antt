-- What a partition and a message are after a turn, and what was said then.
use Rattle.std.specs.Prelude.{◌≡◌, List}
use Rattle.bridge_lines.specs.Acts.{Act}
use Rattle.bridge_turns.specs.Partitions.{PartitionState, Outcome}
use Rattle.bridge_turns.specs.Publishing.{Begun, Batch}

-- this is the partition of an outcome, and what it says was said
abbrev pub IsOutcome : PartitionState → (List Act → Type 0) → Outcome → Type 0
IsOutcome state was_said outcome = (state ≡ outcome.state) × was_said outcome.said

-- this is the message that is begun of a batch, and what it says was said
abbrev pub IsBatch : Begun → (List Act → Type 0) → Batch → Type 0
IsBatch begun was_said batch = (begun ≡ batch.begun) × was_said batch.said
