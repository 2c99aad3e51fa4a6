-- The lists so far are what the joined callers won, and the seat is whole with those still to join.
use Rattle.std.proofs.Common.{◌≡◌, ◌+◌, ◌≤◌, ◌++◌, All, map, vec_len, vec_capacity}
use Rattle.std.specs.List.{flat_map}
use Rattle.shared_seats.specs.SeatNames.{IsWhole}
use Rattle.claim_words.specs.declared.layout.TheConstants.{COUNTERS}
use Rattle.claim_words.specs.Contest.{HasTried, HaveTried}
use Rattle.claim_words.specs.Seats.{view_of, IsOf}
use Rattle.sharing_tests.proofs.claims.join_all.Given as goal

abbrev pub invariant-loop-caller : goal.invariant-loop-caller
invariant-loop-caller l = record {
  seat : IsOf l.seat l.words;
  tried : HaveTried (map (λ list. list.items) l.won.items) (view_of l.seat);
  callers : All (λ caller. IsOf caller.seat l.words × HasTried COUNTERS caller.won.items (view_of caller.seat)) l.callers.items;
  count : vec_len l.won + vec_len l.callers ≡ vec_len l.initial.callers;
  room : vec_len l.initial.callers ≤ vec_capacity l.won;
  whole : IsWhole ((view_of l.seat).names ++ flat_map (λ caller. (view_of caller.seat).names) l.callers.items);
}

abbrev pub decreases-loop-caller : goal.decreases-loop-caller
decreases-loop-caller l = goal.left-loop-caller l
