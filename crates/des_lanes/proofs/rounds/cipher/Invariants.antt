-- The halves are those after twice as many rounds as steps so far.
use Rattle.std.proofs.Common.{◌*◌}
use Rattle.des_lanes.proofs.RoundSteps.{Rounds}
use Rattle.des_lanes.proofs.rounds.cipher.Given as goal

abbrev pub invariant-loop-i : goal.invariant-loop-i
invariant-loop-i l = Rounds l.order l.keys l.initial.left l.initial.right (2 * l.i) l.left l.right
