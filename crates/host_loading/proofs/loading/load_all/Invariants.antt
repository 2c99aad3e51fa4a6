-- The shards so far were loaded from the first stores, and the others are left.
use Rattle.std.proofs.Common.{◌≡◌, ◌≤◌, length, reverse, vec_capacity}
use Rattle.host_loading.proofs.Loads.{IsLoading}
use Rattle.host_loading.proofs.loading.load_all.Given as goal

abbrev pub invariant-loop-number : goal.invariant-loop-number
invariant-loop-number g l = record {
  loading : IsLoading {G = g.S.Store} l.issuer l.fn.olds.items l.olds.items l.fn.stores.items l.shards.items (reverse l.ahead.items);
  count : length l.shards.items ≡ l.number;
  room : length l.fn.stores.items ≤ vec_capacity l.shards;
}
