-- The checks so far are those of the elements so far.
use Rattle.std.proofs.Common.{◌≡◌, take, length}
use Rattle.std.specs.List.{AllZip}
use Rattle.line_checks.specs.LookedUp.{IsCheckOf}
use Rattle.line_checks.proofs.in_lanes.add_checks.Given as goal

abbrev pub invariant-loop-element : goal.invariant-loop-element
invariant-loop-element l = record {
  so_far : AllZip (IsCheckOf l.issuer) (take l.element-index l.found) l.checks;
  len : length l.checks ≡ l.element-index;
}
