-- The shards of the values that are left, and those that were taken, are all.
use Rattle.std.proofs.Common.{◌≡◌, ◌+◌, ◌≤◌, ◌++◌, map, reverse, vec_len, vec_capacity}
use Rattle.shared_shards.proofs.lists.release_all.Given as goal

abbrev pub invariant-loop-shard : goal.invariant-loop-shard
invariant-loop-shard g l = record {
  all : map (λ held. held.shard) l.held.items ++ reverse l.shards.items ≡ map (λ held. held.shard) l.initial.held.items;
  room : vec_len l.held + vec_len l.shards ≤ vec_capacity l.shards;
}

abbrev pub decreases-loop-shard : goal.decreases-loop-shard
decreases-loop-shard g l = vec_len l.held
