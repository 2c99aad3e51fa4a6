-- The stores of the shards that are left, and those that were moved, are all.
use Rattle.std.proofs.Common.{◌≡◌, ◌+◌, ◌≤◌, ◌++◌, map, reverse, vec_len, vec_capacity}
use Rattle.shard_book.specs.Shards.{store_in}
use Rattle.host_loading.proofs.loading.take_stores.Given as goal

abbrev pub invariant-loop-shard : goal.invariant-loop-shard
invariant-loop-shard g l = record {
  all : map store_in l.shards.items ++ reverse l.back.items ≡ map store_in l.initial.shards.items;
  room : vec_len l.shards + vec_len l.back ≤ vec_capacity l.back;
  same : vec_capacity l.back ≡ vec_capacity l.initial.back;
}

abbrev pub decreases-loop-shard : goal.decreases-loop-shard
decreases-loop-shard g l = vec_len l.shards
