-- The lists so far are empty, with room for all counters.
use Rattle.std.proofs.Common.{◌≡◌, ◌≤◌, [], All, vec_len, vec_capacity}
use Rattle.claim_words.specs.declared.layout.TheConstants.{COUNTERS}
use Rattle.sharing_tests.proofs.claims.empty_lists.Given as goal

abbrev pub invariant-loop : goal.invariant-loop
invariant-loop l = record {
  count : vec_len l.lists ≡ l.counter;
  empty : All (λ list. (list.items ≡ []) × (COUNTERS ≤ vec_capacity list)) l.lists.items;
}
