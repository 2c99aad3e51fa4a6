-- The tallies so far count nothing.
use Rattle.std.proofs.Common.{◌≡◌, ◌≤◌, All, vec_len, vec_capacity}
use Rattle.bench_runs.proofs.turns.fresh_tallies.Given as goal

abbrev pub invariant-loop : goal.invariant-loop
invariant-loop l = record {
  count : vec_len l.tallies ≡ l.counter;
  room : l.shards ≤ vec_capacity l.tallies;
  fresh : All (λ tally. tally.count ≡ 0) l.tallies.items;
}
