-- Rows and columns have exchanged their digits so far.
use Rattle.des_lanes.proofs.Turns.{Turns}
use Rattle.des_lanes.proofs.turning.turn.Given as goal

abbrev pub invariant-loop-k : goal.invariant-loop-k
invariant-loop-k l = Turns l.initial.rows l.k l.rows
