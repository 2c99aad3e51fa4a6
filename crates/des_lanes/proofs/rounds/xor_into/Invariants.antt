-- The pairs so far are xored.
use Rattle.des_lanes.proofs.Pairs.{Changes}
use Rattle.des_lanes.proofs.RoundSteps.{xored_bit}
use Rattle.des_lanes.proofs.rounds.xor_into.Given as goal

abbrev pub invariant-loop-i : goal.invariant-loop-i
invariant-loop-i l = Changes (xored_bit l.initial.block l.other) l.initial.block 64 l.i l.block
