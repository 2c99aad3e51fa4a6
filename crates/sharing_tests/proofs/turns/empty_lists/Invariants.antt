-- The lists so far are empty and have room.
use Rattle.std.proofs.Common.{◌≡◌, ◌≤◌, [], All, vec_len, vec_capacity}
use Rattle.sharing_tests.specs.declared.turns.TheConstants.{ITEMS}
use Rattle.sharing_tests.proofs.turns.empty_lists.Given as goal

abbrev pub invariant-loop : goal.invariant-loop
invariant-loop l = record {
  count : vec_len l.lists ≡ l.counter;
  empty : All (λ list. (list.items ≡ []) × (ITEMS ≤ vec_capacity list)) l.lists.items;
}
