-- The messages of a partition's stream, and what counts in them.
use Rattle.std.specs.Prelude.{◌≡◌, ◌≢◌, ℕ, ◌+◌, ◌==◌, Bool, false, ◌&&◌, nat_eq, if◌then◌else◌, List, [], ◌∷◌, ◌++◌, length, take}
use Rattle.std.specs.Cmp.Lexicographic.{pointwise}

-- the text of a record, by its bytes
abbrev pub Text : Type 0
Text = List ℕ

-- the name of a machine or of a barrier, by its characters
abbrev pub Word : Type 0
Word = List ℕ

-- whether two words are equal
abbrev pub is_word : Word → Word → Bool
is_word = pointwise nat_eq

-- a machine announces that it takes the partition over: it has a number, and a name that no other barrier has
pub record Barrier : Type 0 where
  pub number : ℕ
  pub name : Word
  pub machine : Word

-- whether two barriers are equal
abbrev pub is_barrier : Barrier → Barrier → Bool
is_barrier one other = one.number == other.number && is_word one.name other.name && is_word one.machine other.machine

-- a record with its shard, and its index in the shard's journal
pub record Indexed : Type 0 where
  pub shard : ℕ
  pub index : ℕ
  pub text : Text

-- a message of the stream. `OfNothing` is one that can't be parsed, has headers, isn't ASCII or isn't signed
pub data Message : Type 0 where
  OfBarrier : (barrier : Barrier) → Message
  OfRecords : (name : Word) → (records : List Indexed) → Message
  OfMark : (word : Word) → Message
  OfNothing : Message

-- what counts: the last barrier that counts, and the records of each shard that count
pub record Count : Type 0 where
  pub barrier : Barrier
  pub histories : ℕ → List Text

-- whether a barrier counts: its number is that of the last one that counts, plus one
abbrev pub is_next : Barrier → Barrier → Bool
is_next last barrier = barrier.number == last.number + 1

-- whether a message is a barrier that counts
abbrev pub opens : Barrier → Message → Bool
opens last (OfBarrier barrier) = is_next last barrier
opens last (OfRecords name records) = false
opens last (OfMark word) = false
opens last OfNothing = false

-- the last barrier that counts, after one more message
abbrev pub last_barrier : Barrier → Message → Barrier
last_barrier last (OfBarrier barrier) = if is_next last barrier then barrier else last
last_barrier last (OfRecords name records) = last
last_barrier last (OfMark word) = last
last_barrier last OfNothing = last

-- a shard's records that count, after one more record: it counts if its index is the number of those that do
abbrev pub with_record : ℕ → List Text → Indexed → List Text
with_record shard history one =
    if one.shard == shard
    then (if one.index == length history then history ++ one.text ∷ [] else history)
    else history

-- the same after more records
abbrev pub with_records : ℕ → List Text → List Indexed → List Text
with_records shard history [] = history
with_records shard history (one ∷ records) = with_records shard (with_record shard history one) records

-- the same after one more message: its records may count only if its name is that of the last barrier that counts
abbrev pub next_history : Barrier → ℕ → List Text → Message → List Text
next_history last shard history (OfBarrier barrier) = history
next_history last shard history (OfRecords name records) =
    if is_word name last.name then with_records shard history records else history
next_history last shard history (OfMark word) = history
next_history last shard history OfNothing = history

-- what counts after one more message
abbrev pub next_count : Count → Message → Count
next_count count message = record {
  barrier = last_barrier count.barrier message;
  histories = λ shard. next_history count.barrier shard (count.histories shard) message;
}

-- what counts after these messages
abbrev pub counted : Count → List Message → Count
counted count [] = count
counted count (message ∷ messages) = counted (next_count count message) messages

-- the barrier that counts before the first one
abbrev pub no_barrier : Barrier
no_barrier = record { number = 0; name = []; machine = [] }

-- what counts in an empty stream: the records of the journals that the partition began with
abbrev pub first_count : (ℕ → List Text) → Count
first_count base = record { barrier = no_barrier; histories = base }

-- what counts in the first messages of a stream, as many as `place`
abbrev pub count_in : (ℕ → List Text) → List Message → ℕ → Count
count_in base stream place = counted (first_count base) (take place stream)

-- a message after which the same counts as before it
pub record CountsNothing (count : Count) (message : Message) : Type 0 where
  pub barrier_stays : (next_count count message).barrier ≡ count.barrier
  pub histories_stay : (shard : ℕ) → (next_count count message).histories shard ≡ count.histories shard

-- with this barrier the last one that counts is this barrier, and the same records count
pub record OpensBy (count : Count) (barrier : Barrier) : Type 0 where
  pub barrier_is : (next_count count (OfBarrier barrier)).barrier ≡ barrier
  pub histories_stay : (shard : ℕ)
      → (next_count count (OfBarrier barrier)).histories shard ≡ count.histories shard

-- a message of this record alone, by the name that counts
abbrev pub by_name : Count → Indexed → Message
by_name count one = OfRecords count.barrier.name (one ∷ [])

-- with that message the record's shard has one more record that counts, and each other shard the same ones
pub record AddsOne (count : Count) (one : Indexed) : Type 0 where
  pub added : (next_count count (by_name count one)).histories one.shard
      ≡ count.histories one.shard ++ one.text ∷ []
  pub others_stay : (shard : ℕ) → shard ≢ one.shard
      → (next_count count (by_name count one)).histories shard ≡ count.histories shard
