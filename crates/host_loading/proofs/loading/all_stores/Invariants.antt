-- The stores so far, and those that are left, are all.
use Rattle.std.proofs.Common.{◌≡◌, ◌+◌, ◌≤◌, ◌++◌, reverse, vec_len, vec_capacity}
use Rattle.host_loading.proofs.loading.all_stores.Given as goal

abbrev pub invariant-loop-next : goal.invariant-loop-next
invariant-loop-next g l = record {
  all : l.stores.items ++ reverse l.ahead.items ≡ l.initial.stores.items ++ reverse l.initial.ahead.items;
  room : vec_len l.stores + vec_len l.ahead ≤ vec_capacity l.stores;
}

abbrev pub decreases-loop-next : goal.decreases-loop-next
decreases-loop-next g l = vec_len l.ahead
