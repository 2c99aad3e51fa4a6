-- The callers so far are ready, and all seats are whole together.
use Rattle.std.proofs.Common.{◌≡◌, ◌+◌, ◌≤◌, [], ◌++◌, All, vec_len, vec_capacity}
use Rattle.std.specs.List.{flat_map}
use Rattle.shared_seats.specs.SeatNames.{IsWhole}
use Rattle.sharing_tests.specs.declared.turns.TheConstants.{ITEMS}
use Rattle.turn_book.specs.Seats.{view_of}
use Rattle.turn_book.specs.Counting.{IsReady}
use Rattle.sharing_tests.proofs.turns.seat_all.Given as goal

abbrev pub invariant-loop-places : goal.invariant-loop-places
invariant-loop-places l = record {
  ready : IsReady l.tallies l.seat [];
  lists : All (λ list. (list.items ≡ []) × (ITEMS ≤ vec_capacity list)) l.lists.items;
  callers : All (λ caller. IsReady l.tallies caller.seat caller.places.items × (caller.places.items ≡ []) × (ITEMS ≤ vec_capacity caller.places))
      l.callers.items;
  count : vec_len l.callers + vec_len l.lists ≡ vec_len l.initial.lists;
  room : vec_len l.initial.lists ≤ vec_capacity l.callers;
  whole : IsWhole ((view_of l.seat).names ++ flat_map (λ caller. (view_of caller.seat).names) l.callers.items);
}

abbrev pub decreases-loop-places : goal.decreases-loop-places
decreases-loop-places l = goal.left-loop-places l
