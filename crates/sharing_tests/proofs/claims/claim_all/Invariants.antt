-- The caller has tried each counter so far, and its list has room for the others.
use Rattle.std.proofs.Common.{◌≡◌, ◌≤◌, vec_len, vec_capacity}
use Rattle.claim_words.specs.declared.layout.TheConstants.{COUNTERS}
use Rattle.claim_words.specs.Contest.{HasTried}
use Rattle.claim_words.specs.Seats.{view_of, IsOf}
use Rattle.sharing_tests.proofs.claims.claim_all.Given as goal

abbrev pub invariant-loop-counter : goal.invariant-loop-counter
invariant-loop-counter l = record {
  seat : IsOf l.caller.seat l.words;
  names : (view_of l.caller.seat).names ≡ (view_of l.initial.caller.seat).names;
  tried : HasTried l.counter l.caller.won.items (view_of l.caller.seat);
  room : vec_len l.caller.won ≤ l.counter;
  capacity : COUNTERS ≤ vec_capacity l.caller.won;
}
