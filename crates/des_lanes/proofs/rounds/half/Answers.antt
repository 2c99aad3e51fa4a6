-- One more pair is taken from its place, up to all 32.
use Rattle.std.proofs.Common.{◌≡◌, ℕ, ◌∙◌, refl, arith, subst}
use Rattle.des_lanes.specs.Lanes.{lane_bits}
use Rattle.des_lanes.proofs.Pairs.{Fills, Fills_none, Fills_more, Fills_all, bit_at_place, bits_at_is, lane-at}
use Rattle.des_lanes.proofs.rounds.half.Goals as goal

pub loop-i-init : goal.loop-i-init
loop-i-init c = Fills_none _ 32 _ refl

pub loop-i-preserved : goal.loop-i-preserved
unfolding bit_at_place
loop-i-preserved c = Fills_more _ 32 c.loop-i.i c.loop-i.out _ c.loop-i.invariant (omega arith) (λ lane. lane-at lane c.args.block.now _)

pub returns : goal.returns
returns c = λ lane.
    let all : c.loop-i.i ≡ 32 = omega arith in
    let f = λ (lane : ℕ). bit_at_place c.args.places.now (lane_bits lane c.args.block.now) in
    Fills_all f 32 c.loop-i.out (subst (λ (i : ℕ). Fills f 32 i c.loop-i.out) all c.loop-i.invariant) lane
    ∙ bits_at_is c.args.places.now (lane_bits lane c.args.block.now) 32 (omega arith)
