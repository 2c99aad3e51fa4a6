-- A count for each shard so far, and there is room for all.
use Rattle.std.proofs.Common.{◌≡◌, ◌≤◌, vec_len, vec_capacity}
use Rattle.turn_book.proofs.values.no_sleepers.Given as goal

abbrev pub invariant-loop : goal.invariant-loop
invariant-loop l = record {
  made : vec_len l.sleepers ≡ l.counter;
  room : l.count ≤ vec_capacity l.sleepers;
}
