-- The counts of the shards so far are set, and all else is zero.
use Rattle.std.proofs.Common.{◌≡◌, ℕ, ◌*◌, ◌<◌, ◌≤◌, length, slice_index}
use Rattle.turn_book.specs.declared.layout.TheConstants.{SHARD_WORDS}
use Rattle.turn_book.specs.Layout.{turn_in, count_in}
use Rattle.turn_book.proofs.values.opening_words.Given as goal

abbrev pub invariant-loop-shard : goal.invariant-loop-shard
invariant-loop-shard l = record {
  wide : length l.words.items ≡ SHARD_WORDS * length l.counts;
  free : (shard : ℕ) → turn_in l.words.items shard ≡ 0;
  counted : (shard : ℕ) → shard < l.shard → count_in l.words.items shard ≡ slice_index l.counts shard;
  rest : (shard : ℕ) → length l.counts ≤ shard → count_in l.words.items shard ≡ 0;
}
