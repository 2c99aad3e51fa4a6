-- The pairs so far are those of the two halves by turns.
use Rattle.std.proofs.Common.{◌*◌}
use Rattle.des_lanes.proofs.Pairs.{Fills}
use Rattle.des_lanes.proofs.RoundSteps.{back_bit}
use Rattle.des_lanes.proofs.rounds.put_back.Given as goal

abbrev pub invariant-loop-i : goal.invariant-loop-i
invariant-loop-i l = Fills (back_bit l.first l.second) 64 (2 * l.i) l.block
