-- The seat so far is whole with those of the callers that are still to join.
use Rattle.std.proofs.Common.{◌++◌, All}
use Rattle.std.specs.List.{flat_map}
use Rattle.shared_seats.specs.SeatNames.{IsWhole}
use Rattle.claim_words.specs.Seats.{view_of, IsOf}
use Rattle.bench_runs.proofs.claims.join_all.Given as goal

abbrev pub invariant-loop-caller : goal.invariant-loop-caller
invariant-loop-caller l = record {
  seat : IsOf l.seat l.words;
  callers : All (λ caller. IsOf caller.seat l.words) l.callers.items;
  whole : IsWhole ((view_of l.seat).names ++ flat_map (λ caller. (view_of caller.seat).names) l.callers.items);
}

abbrev pub decreases-loop-caller : goal.decreases-loop-caller
decreases-loop-caller l = goal.left-loop-caller l
