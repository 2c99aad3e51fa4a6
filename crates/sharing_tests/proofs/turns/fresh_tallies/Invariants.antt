-- The tallies so far count nothing.
use Rattle.std.proofs.Common.{◌≡◌, ◌≤◌, All, vec_len, vec_capacity}
use Rattle.sharing_tests.specs.declared.turns.TheConstants.{SHARDS}
use Rattle.sharing_tests.proofs.turns.fresh_tallies.Given as goal

abbrev pub invariant-loop-shard : goal.invariant-loop-shard
invariant-loop-shard l = record {
  count : vec_len l.tallies ≡ l.shard;
  room : SHARDS ≤ vec_capacity l.tallies;
  fresh : All (λ tally. tally.count ≡ 0) l.tallies.items;
}
