-- The lines that are left end where all lines do.
use Rattle.std.proofs.Common.{◌≤◌, ◌-◌, length}
use Rattle.bridge_lines.specs.TurnReading.{lines_end}
use Rattle.bridge_lines.proofs.Lining.{Ends}
use Rattle.bridge_lines.proofs.turn.lines_end.Given as goal

abbrev pub invariant-loop-i : goal.invariant-loop-i
invariant-loop-i l = record {
  within : l.end ≤ length l.text;
  ends : Ends l.end (l.count - l.i) l.text (lines_end l.count l.text);
}
