-- While lines are dealt, no answer is due.
use Rattle.std.proofs.Common.{◌≡◌}
use Rattle.shared_callers.specs.Lanes.{due_in}
use Rattle.sharing_tests.proofs.lanes.answer.Given as goal

abbrev pub invariant-loop-line : goal.invariant-loop-line
invariant-loop-line g l = due_in l.lanes ≡ 0
