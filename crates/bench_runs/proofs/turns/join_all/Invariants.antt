-- The seat is ready, and all seats are whole together.
use Rattle.std.proofs.Common.{◌++◌, All}
use Rattle.std.specs.List.{flat_map}
use Rattle.shared_seats.specs.SeatNames.{IsWhole}
use Rattle.turn_book.specs.Seats.{view_of}
use Rattle.bench_runs.specs.Ready.{IsReady}
use Rattle.bench_runs.proofs.turns.join_all.Given as goal

abbrev pub invariant-loop-caller : goal.invariant-loop-caller
invariant-loop-caller l = record {
  seat : IsReady l.tallies l.seat 0;
  callers : All (λ caller. IsReady l.tallies caller.seat caller.shard) l.callers.items;
  whole : IsWhole ((view_of l.seat).names ++ flat_map (λ caller. (view_of caller.seat).names) l.callers.items);
}

abbrev pub decreases-loop-caller : goal.decreases-loop-caller
decreases-loop-caller l = goal.left-loop-caller l
