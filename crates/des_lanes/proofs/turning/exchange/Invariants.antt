-- The pairs so far have exchanged the digit with their columns.
use Rattle.des_lanes.proofs.Turns.{Exchanges}
use Rattle.des_lanes.proofs.turning.exchange.Given as goal

abbrev pub invariant-loop-pair : goal.invariant-loop-pair
invariant-loop-pair l = Exchanges l.initial.rows l.k l.pair l.rows
