-- The initial words of the table.
use Rattle.std.specs.Prelude.{◌≡◌, ℕ, ◌*◌, List, length, slice_index}
use Rattle.turn_book.specs.declared.layout.TheConstants.{SHARD_WORDS}
use Rattle.turn_book.specs.Layout.{turn_in, count_in}

-- each turn is free, and each shard's log has its count of items
pub record AreOpeningWords (counts words : List ℕ) : Type 0 where
  pub wide : length words ≡ SHARD_WORDS * length counts
  pub free : (shard : ℕ) → turn_in words shard ≡ 0
  pub counted : (shard : ℕ) → count_in words shard ≡ slice_index counts shard
