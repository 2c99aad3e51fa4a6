-- The messages of a stream, and their texts.
use Rattle.std.specs.Prelude.{◌≡◌, ℕ, ◌<◌, ◌≤◌, true, List, [], ◌∷◌, ◌++◌, length, codes, decimal}
use Rattle.std.specs.List.{flat_map, AllByRecursion}
use Rattle.one_history.specs.Streams.{Word, Barrier, Indexed}
use Rattle.bridge_rule.specs.declared.limits.TheConstants.{LOGS}
use Rattle.bridge_lines.specs.declared.limits.TheConstants.{MAX_RECORDS, NUMBER_END}
use Rattle.bridge_lines.specs.Parts.{is_name, is_text}

-- what a message says: a barrier, records by the name of one, or a mark
pub data Said : Type 0 where
  SaysBarrier : (barrier : Barrier) → Said
  SaysRecords : (name : Word) → (sequence : ℕ) → (records : List Indexed) → Said
  SaysMark : (word : Word) → Said

-- a line, and the newline that ends it
abbrev pub ended : List ℕ → List ℕ
ended line = line ++ 10 ∷ []

-- a record's feed line, without its newline: its shard, its index and its text, with a space between
abbrev pub feed_line : Indexed → List ℕ
feed_line one = decimal one.shard ++ 32 ∷ (decimal one.index ++ 32 ∷ one.text)

abbrev pub feed_lines : List Indexed → List ℕ
feed_lines records = flat_map (λ one. ended (feed_line one)) records

-- NUMBER NAME MACHINE
abbrev pub barrier_words : Barrier → List ℕ
barrier_words barrier = decimal barrier.number ++ 32 ∷ (barrier.name ++ 32 ∷ barrier.machine)

-- a message's text
abbrev pub text_of : Said → List ℕ
text_of (SaysBarrier barrier) = ended (codes "barrier" ++ 32 ∷ barrier_words barrier)
text_of (SaysRecords name sequence records) =
    (codes "records" ++ 32 ∷ (name ++ 32 ∷ decimal sequence)) ++ 10 ∷ feed_lines records
text_of (SaysMark word) = ended (codes "mark" ++ 32 ∷ word)

-- a record that a message can have: it is of one of the logs, its index is a number, and its text is ASCII in one line
pub record IsSaidRecord (one : Indexed) : Type 0 where
  pub shard : one.shard < LOGS
  pub index : one.index < NUMBER_END
  pub text : is_text one.text ≡ true

-- the records of a message: each is one, and there aren't too many
pub record AreSaidRecords (records : List Indexed) : Type 0 where
  pub each : AllByRecursion IsSaidRecord records
  pub most : length records ≤ MAX_RECORDS

-- a barrier of a message has a number, a name and a machine's name
pub record IsSaidBarrier (barrier : Barrier) : Type 0 where
  pub number : barrier.number < NUMBER_END
  pub name : is_name barrier.name ≡ true
  pub machine : is_name barrier.machine ≡ true

-- records by the name of a barrier
pub record AreSaidBy (name : Word) (sequence : ℕ) (records : List Indexed) : Type 0 where
  pub is_name : is_name name ≡ true
  pub is_number : sequence < NUMBER_END
  pub are_records : AreSaidRecords records

-- a message that has a text
abbrev pub IsSaid : Said → Type 0
IsSaid (SaysBarrier barrier) = IsSaidBarrier barrier
IsSaid (SaysRecords name sequence records) = AreSaidBy name sequence records
IsSaid (SaysMark word) = is_name word ≡ true

-- this text says this message
pub record Says (text : List ℕ) (said : Said) : Type 0 where
  pub is_said : IsSaid said
  pub text_is : text ≡ text_of said
