-- The keys of records: one that two records may not both have.
use Rattle.std.specs.Prelude.{◌≡◌, ℕ, Bool, IsTrue, List, Option, Some, None, All}
use Rattle.one_history.specs.Streams.{Text, Word}

-- which key a record has, if it has one, and which shard has the records of a key. Of a decision the key is the card
-- and its counter
pub record Keys : Type 0 where
  pub key_of : ℕ → Text → Option Word
  pub shard_of : Word → ℕ

-- the record with this key is one of the key's shard, and the first one there
pub record IsFirstOf (keys : Keys) (shard : ℕ) (history : List Text) (key : Word) : Type 0 where
  pub home : shard ≡ keys.shard_of key
  pub first : All (λ other. keys.key_of shard other ≡ Some key → ⊥) history

-- a record that has this key, or none, may follow
abbrev pub IsFirstWith : Keys → ℕ → List Text → Option Word → Type 0
IsFirstWith keys shard history None = Unit {0}
IsFirstWith keys shard history (Some key) = IsFirstOf keys shard history key

-- a record may follow if it is one of its key's shard, and the first one with its key
abbrev pub IsFirst : Keys → ℕ → List Text → Text → Type 0
IsFirst keys shard history text = IsFirstWith keys shard history (keys.key_of shard text)

-- a record may follow if it passes a test
abbrev pub Passes : (ℕ → List Text → Text → Bool) → ℕ → List Text → Text → Type 0
Passes test shard history text = IsTrue (test shard history text)
