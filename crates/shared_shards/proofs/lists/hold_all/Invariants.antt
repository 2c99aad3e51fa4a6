-- The values so far are the first shards, with their counts, and the others are ahead.
use Rattle.std.proofs.Common.{◌≡◌, ◌+◌, ◌≤◌, ◌++◌, length, map, take, reverse, vec_len, vec_capacity}
use Rattle.shared_shards.proofs.lists.hold_all.Given as goal

abbrev pub invariant-loop-shard : goal.invariant-loop-shard
invariant-loop-shard g l = record {
  all : map (λ held. held.shard) l.lists.held.items ++ reverse l.ahead.items ≡ l.fn.shards.items;
  counts : l.lists.counts.items ≡ map (λ log. length log.items) (take (length l.lists.held.items) l.logs.view);
  held_room : vec_len l.ahead + vec_len l.lists.held ≤ vec_capacity l.lists.held;
  counts_room : vec_len l.ahead + vec_len l.lists.counts ≤ vec_capacity l.lists.counts;
}

abbrev pub decreases-loop-shard : goal.decreases-loop-shard
decreases-loop-shard g l = vec_len l.ahead
