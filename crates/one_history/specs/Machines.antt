-- Machines that read one stream, and the world of all of them.
use Rattle.std.specs.Prelude.{◌≡◌, ℕ, if◌then◌else◌, List, [], ◌∷◌, ◌++◌, length, take, slice_get, slice_index_or, Some}
use Rattle.one_history.specs.Streams.{Text, Word, Barrier, Indexed, Message, OfNothing, Count, count_in, is_word}

-- a host's answer: the record that it names, and the records before that one in its shard
pub record Answer : Type 0 where
  pub shard : ℕ
  pub before : List Text
  pub text : Text

-- the shard's records up to the one that the answer names
abbrev pub up_to : Answer → List Text
up_to answer = answer.before ++ answer.text ∷ []

-- a machine follows the stream; or it has written a barrier and waits until that counts; or it serves by its barrier
pub data Stage : Type 0 where
  Follows : Stage
  Begins : (barrier : Barrier) → Stage
  Serves : (barrier : Barrier) → Stage

-- a machine of a partition
pub record Machine : Type 0 where
  -- how many messages of the stream it has read
  pub read : ℕ
  -- how many its position on the disk says that it has read
  pub kept : ℕ
  -- the records of each shard's journal
  pub journals : ℕ → List Text
  pub stage : Stage
  -- while it serves: how many records of each journal its bridge knows
  pub known : ℕ → ℕ
  -- the answers of its host that wait until their records count
  pub held : List Answer

-- all machines of a partition and their stream
pub record World : Type 0 where
  -- the records of the journals that all machines began with
  pub base : ℕ → List Text
  pub stream : List Message
  -- the messages that machines made: one may come to the stream late, twice or never
  pub made : List Message
  -- the names of the barriers that were made
  pub names : List Word
  pub machines : Word → Machine
  -- the replies that were ever sent, each with the answer that it gives
  pub sent : List Answer

-- what counts in the first messages of the world's stream, as many as `place`
abbrev pub count_at : World → ℕ → Count
count_at world place = count_in world.base world.stream place

-- what counts in the whole stream
abbrev pub count_of : World → Count
count_of world = count_at world (length world.stream)

-- the message that a machine reads next
abbrev pub next_message : World → Machine → Message
next_message world machine = slice_index_or world.stream machine.read OfNothing

-- the world with this machine in the place of the one with this name
abbrev pub with_machine : World → Word → Machine → World
with_machine world name machine =
    record world { machines = λ other. if is_word other name then machine else world.machines other }

-- a machine's bridge knows this record: its journal has it among those that the bridge knows
abbrev pub Knows : Machine → Indexed → Type 0
Knows machine one = slice_get (take (machine.known one.shard) (machine.journals one.shard)) one.index ≡ Some one.text

-- a machine as it begins: it has read nothing, and its journals are those that all began with
abbrev pub new_machine : (ℕ → List Text) → Machine
new_machine base =
    record { read = 0; kept = 0; journals = base; stage = Follows; known = λ shard. 0; held = [] }

-- a world before any event
abbrev pub new_world : (ℕ → List Text) → World
new_world base = record {
  base = base;
  stream = [];
  made = [];
  names = [];
  machines = λ name. new_machine base;
  sent = [];
}
