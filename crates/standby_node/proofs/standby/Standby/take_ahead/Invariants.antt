-- The lines so far were taken.
use Rattle.standby_node.proofs.Ahead.{HasTakenAhead}
use Rattle.standby_node.proofs.standby.Standby.take_ahead.Given as goal

abbrev pub invariant-loop-i : goal.invariant-loop-i
invariant-loop-i g l = HasTakenAhead l.issuer l.fn.self l.ahead l.i l.self
