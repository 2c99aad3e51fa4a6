-- Each list so far has its caller, which has tried nothing, and all seats together are whole.
use Rattle.std.proofs.Common.{◌≡◌, ◌+◌, ◌≤◌, [], ◌++◌, All, vec_len, vec_capacity}
use Rattle.std.specs.List.{flat_map}
use Rattle.shared_seats.specs.SeatNames.{IsWhole}
use Rattle.claim_words.specs.declared.layout.TheConstants.{COUNTERS}
use Rattle.claim_words.specs.Contest.{HasTried, HaveTried}
use Rattle.claim_words.specs.Seats.{view_of, IsOf}
use Rattle.sharing_tests.proofs.claims.seat_all.Given as goal

abbrev pub invariant-loop-won : goal.invariant-loop-won
invariant-loop-won l = record {
  seat : IsOf l.seat l.words;
  new : HaveTried [] (view_of l.seat);
  lists : All (λ list. (list.items ≡ []) × (COUNTERS ≤ vec_capacity list)) l.lists.items;
  callers : All (λ caller. IsOf caller.seat l.words × HasTried 0 caller.won.items (view_of caller.seat) × (caller.won.items ≡ [])
      × (COUNTERS ≤ vec_capacity caller.won))
      l.callers.items;
  count : vec_len l.callers + vec_len l.lists ≡ vec_len l.initial.lists;
  room : vec_len l.initial.lists ≤ vec_capacity l.callers;
  whole : IsWhole ((view_of l.seat).names ++ flat_map (λ caller. (view_of caller.seat).names) l.callers.items);
}

abbrev pub decreases-loop-won : goal.decreases-loop-won
decreases-loop-won l = goal.left-loop-won l
