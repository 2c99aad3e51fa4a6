-- The rows so far are written.
use Rattle.des_lanes.proofs.WordLanes.{Splits}
use Rattle.des_lanes.proofs.turning.from_lanes.Given as goal

abbrev pub invariant-loop-i : goal.invariant-loop-i
invariant-loop-i l = Splits l.rows l.i l.words
