-- The elements so far are those of before, with their verdicts, and the others are unchanged.
use Rattle.std.proofs.Common.{◌≡◌, take, drop, length}
use Rattle.std.specs.List.{AllZip}
use Rattle.line_checks.specs.LookedUp.{IsLookedUpAgain}
use Rattle.line_checks.proofs.in_lanes.check_all.Given as goal

abbrev pub invariant-loop-i : goal.invariant-loop-i
invariant-loop-i l = record {
  so_far : AllZip (IsLookedUpAgain l.issuer) (take l.i l.fn.found) (take l.i l.found);
  unchanged : drop l.i l.found ≡ drop l.i l.fn.found;
  len : length l.found ≡ length l.fn.found;
}
