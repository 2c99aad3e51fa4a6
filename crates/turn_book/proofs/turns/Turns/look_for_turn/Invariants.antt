-- Until it has the turn, the seat is unchanged.
use Rattle.std.proofs.Common.{◌≡◌}
use Rattle.turn_book.specs.Seats.{view_of, IsOf}
use Rattle.turn_book.proofs.turns.Turns.look_for_turn.Given as goal

abbrev pub invariant-loop : goal.invariant-loop
invariant-loop g l = record {
  seat : IsOf l.seat l.self;
  view : view_of l.seat ≡ view_of l.initial.seat;
}
