-- What a node is told to do, without where it lies in memory.
use Rattle.std.specs.Prelude.{ℕ, List, map}
use Rattle.one_history.specs.Streams.{Word, Barrier, Indexed}
use Rattle.bridge_rule.specs.Openings.{barrier_of}
use Rattle.bridge_rule.specs.Bridges.{indexed}
use Rattle.bridge_lines.specs.declared.message.Message.{Message}
use Rattle.bridge_lines.specs.declared.message.Message.TheVariants.{Opening, Records, Mark, Nothing}
use Rattle.bridge_lines.specs.declared.action.Action.{Action}
use Rattle.bridge_lines.specs.declared.action.Action.TheVariants as of
use Rattle.bridge_lines.specs.declared.action.Why.{Why}

-- what a node is told to do
pub data Act : Type 0 where
  -- append this record, which counts, to its journal
  Put : (one : Indexed) → Act
  -- truncate a shard's journal to so many records
  Cut : (shard : ℕ) → (length : ℕ) → Act
  -- write a message to the stream: a barrier, records by a name, a mark, or a text that counts nowhere
  PublishBarrier : (barrier : Barrier) → Act
  PublishRecords : (name : Word) → (sequence : ℕ) → (records : List Indexed) → Act
  PublishMark : (word : Word) → Act
  PublishNothing : Act
  -- this barrier counts now
  Position : (barrier : Barrier) → Act
  -- so many records of a shard count now
  Count : (shard : ℕ) → (number : ℕ) → Act
  -- stand in the line of the queue's consumers
  Ready : Act
  -- start the host, or kill it
  Begin : Act
  End : Act
  -- send the reply of the answer with this number
  Reply : (number : ℕ) → Act
  -- stop the partition
  Stop : (why : Why) → Act
  -- the turn is over
  Over : Act

-- the message that is written
abbrev pub published : Message → Act
published (Opening opening) = PublishBarrier (barrier_of opening)
published (Records records) =
    PublishRecords records.now.name.items records.now.sequence (map indexed records.now.records.items)
published (Mark word) = PublishMark word.items
published Nothing = PublishNothing

abbrev pub act_of : Action → Act
act_of (of.Put one) = Put (indexed one.now)
act_of (of.Cut cut) = Cut cut.shard cut.length
act_of (of.Publish message) = published message.now
act_of (of.Position opening) = Position (barrier_of opening.now)
act_of (of.Count counted) = Count counted.shard counted.number
act_of of.Ready = Ready
act_of of.Begin = Begin
act_of of.End = End
act_of (of.Reply number) = Reply number
act_of (of.Stop why) = Stop why
act_of of.Over = Over
