-- The lines from the first index to this one were looked up.
use Rattle.std.proofs.Common.{◌≡◌, ◌+◌, length}
use Rattle.line_checks.specs.LookedUp.{AreLookUps}
use Rattle.shared_callers.specs.OneLane.{looked_up_lines}
use Rattle.shared_callers.proofs.lane.Lane.look_up_lines.Given as goal

abbrev pub invariant-loop-index : goal.invariant-loop-index
invariant-loop-index g l = record {
  ahead : AreLookUps l.host.issuer (looked_up_lines l.place l.self) l.self.ahead;
  count : l.index ≡ l.place + length l.self.ahead;
  pass : l.self.pass ≡ l.fn.self.pass;
  lines : l.self.lines ≡ l.fn.self.lines;
  texts : l.self.texts ≡ l.fn.self.texts;
}
