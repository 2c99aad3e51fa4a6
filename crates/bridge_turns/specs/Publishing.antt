-- Records that are published, in messages of at most so many.
use Rattle.std.specs.Prelude.{ℕ, ◌+◌, ◌%◌, ◌==◌, List, [], ◌∷◌, ◌++◌, length, if◌then◌else◌}
use Rattle.one_history.specs.Streams.{Word, Indexed}
use Rattle.bridge_lines.specs.declared.limits.TheConstants.{MAX_RECORDS, NUMBER_END}
use Rattle.bridge_lines.specs.Acts.{Act, PublishRecords}

-- messages of this name: the number of the last one, and the records of the one that is begun
pub record Begun : Type 0 where
  pub name : Word
  pub sequence : ℕ
  pub records : List Indexed

-- a message that is begun, and all that was said
pub record Batch : Type 0 where
  pub begun : Begun
  pub said : List Act

abbrev pub batch_of : Begun → List Act → Batch
batch_of begun said = record { begun = begun; said = said }

-- messages have this name from now on
abbrev pub named : Begun → Word → Begun
named begun name = record begun { name = name }

-- numbers only tell messages apart
abbrev pub next_sequence : ℕ → ℕ
next_sequence sequence = (sequence + 1) % NUMBER_END

-- with one more record
abbrev pub longer : Begun → Indexed → Begun
longer begun one = record begun { records = begun.records ++ one ∷ [] }

-- what is begun is published
abbrev pub flushed : Batch → Batch
flushed batch = record {
  begun = record { name = batch.begun.name; sequence = next_sequence batch.begun.sequence; records = [] };
  said = batch.said ++ PublishRecords batch.begun.name (next_sequence batch.begun.sequence) batch.begun.records ∷ [];
}

-- one more record: a message that is full is published
abbrev pub added : Batch → Indexed → Batch
added batch one =
    if length (longer batch.begun one).records == MAX_RECORDS
    then flushed (batch_of (longer batch.begun one) batch.said)
    else batch_of (longer batch.begun one) batch.said

abbrev pub all_added : Batch → List Indexed → Batch
all_added batch [] = batch
all_added batch (one ∷ records) = all_added (added batch one) records

-- what is begun is published, if there is something
abbrev pub closed : Batch → Batch
closed batch = if length batch.begun.records == 0 then batch else flushed batch
