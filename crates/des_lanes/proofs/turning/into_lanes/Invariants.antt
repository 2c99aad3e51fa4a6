-- The rows so far are the words so far, 64 apart.
use Rattle.des_lanes.proofs.Pairs.{Fills}
use Rattle.des_lanes.proofs.WordLanes.{row_bit}
use Rattle.des_lanes.proofs.turning.into_lanes.Given as goal

abbrev pub invariant-loop-i : goal.invariant-loop-i
invariant-loop-i l = Fills (row_bit l.words) 64 l.i l.rows
