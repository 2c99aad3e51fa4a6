-- The lines so far were answered in their order, with these texts; the pass is free, and some lines are looked up.
use Rattle.std.proofs.Common.{◌≡◌, ◌≤◌, take}
use Rattle.line_checks.specs.LookedUp.{AreLookUps}
use Rattle.host_calls.specs.Passes.{claims_of, logs_of, IsFree}
use Rattle.shared_callers.specs.OneLane.{looked_up_lines}
use Rattle.shared_callers.proofs.Calling.{HasCalled}
use Rattle.shared_callers.proofs.lane.Lane.answer.Given as goal

abbrev pub invariant-loop-place : goal.invariant-loop-place
invariant-loop-place g l = record {
  free : IsFree l.host l.self.pass;
  names : (claims_of l.self.pass).names ≡ (claims_of l.fn.self.pass).names;
  lines : l.self.lines ≡ l.fn.self.lines;
  room : l.self.texts.room ≡ l.fn.self.lines.room;
  used : l.self.texts.used ≡ l.place;
  ahead : AreLookUps l.host.issuer (looked_up_lines l.first l.self) l.self.ahead;
  within : l.first ≤ l.place;
  called : HasCalled l.host.issuer (take l.place l.fn.self.lines.lines) l.self.texts.texts (claims_of l.fn.self.pass)
      (logs_of l.fn.self.pass) (claims_of l.self.pass) (logs_of l.self.pass);
}
