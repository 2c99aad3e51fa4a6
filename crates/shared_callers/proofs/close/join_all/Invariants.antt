-- The first pass is free, whole with those still to join, and has what those joined had.
use Rattle.std.proofs.Common.{◌≡◌, ◌++◌, List, All}
use Rattle.std.specs.List.{flat_map}
use Rattle.shared_seats.specs.SeatNames.{IsWhole}
use Rattle.host_calls.specs.Passes.{claims_of, IsFree}
use Rattle.shared_callers.specs.Joins.{HasJoined}
use Rattle.shared_callers.specs.declared.lane.Lane.{Lane}
use Rattle.shared_callers.proofs.close.join_all.Given as goal

abbrev pub invariant-loop-lane : goal.invariant-loop-lane
invariant-loop-lane g l = record {
  first : IsFree l.host l.first;
  free : All (λ lane. IsFree l.host lane.pass) l.lanes.items;
  whole : IsWhole ((claims_of l.first).names ++ flat_map (λ lane. (claims_of lane.pass).names) l.lanes.items);
  joined : (popped : List Lane) × (l.fn.lanes.items ≡ l.lanes.items ++ popped) × HasJoined l.fn.first popped l.first;
}

abbrev pub decreases-loop-lane : goal.decreases-loop-lane
decreases-loop-lane g l = goal.left-loop-lane g l
