-- The seat has the indices of the lists so far, and all seats are whole together.
use Rattle.std.proofs.Common.{◌≡◌, ◌+◌, ◌≤◌, ◌++◌, All, map, vec_len, vec_capacity}
use Rattle.std.specs.List.{flat_map}
use Rattle.shared_seats.specs.SeatNames.{IsWhole}
use Rattle.turn_book.specs.Seats.{view_of}
use Rattle.turn_book.specs.Counting.{IsReady, IsDone}
use Rattle.sharing_tests.proofs.turns.join_all.Given as goal

abbrev pub invariant-loop-caller : goal.invariant-loop-caller
invariant-loop-caller l = record {
  done : IsDone l.tallies l.seat (map (λ list. list.items) l.places.items);
  callers : All (λ caller. IsReady l.tallies caller.seat caller.places.items) l.callers.items;
  count : vec_len l.places + vec_len l.callers ≡ vec_len l.initial.callers;
  room : vec_len l.initial.callers ≤ vec_capacity l.places;
  whole : IsWhole ((view_of l.seat).names ++ flat_map (λ caller. (view_of caller.seat).names) l.callers.items);
}

abbrev pub decreases-loop-caller : goal.decreases-loop-caller
decreases-loop-caller l = goal.left-loop-caller l
