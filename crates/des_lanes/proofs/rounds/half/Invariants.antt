-- The pairs so far are those at the places so far.
use Rattle.des_lanes.specs.Lanes.{lane_bits}
use Rattle.des_lanes.proofs.Pairs.{Fills, bit_at_place}
use Rattle.des_lanes.proofs.rounds.half.Given as goal

abbrev pub invariant-loop-i : goal.invariant-loop-i
invariant-loop-i l = Fills (λ lane. bit_at_place l.places (lane_bits lane l.block)) 32 l.i l.out
