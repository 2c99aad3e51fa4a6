-- One more pair is xored, up to all 64.
use Rattle.std.proofs.Common.{◌≡◌, ℕ, arith, subst}
use Rattle.des_lanes.proofs.Pairs.{Fills, Changes_none, Changes_more}
use Rattle.des_lanes.proofs.RoundSteps.{xored_bit, xored_step, xored_is}
use Rattle.des_lanes.proofs.WordLanes.{lane_word-xor}
use Rattle.des_lanes.proofs.rounds.xor_into.Goals as goal

pub loop-i-init : goal.loop-i-init
loop-i-init c = Changes_none _ c.args.block.now 64 (omega arith)

pub loop-i-preserved : goal.loop-i-preserved
loop-i-preserved c =
    Changes_more _ c.args.block.now 64 c.loop-i.i c.loop-i.block _ c.loop-i.invariant (omega arith)
    (λ lane. xored_step c.args.block.now c.args.other.now c.loop-i.block lane c.loop-i.i c.xored.result (c.loop-i.invariant.rest c.loop-i.i (omega arith)) (c.xored.ensures lane))

pub returns : goal.returns
returns c = λ lane.
    let all : c.loop-i.i ≡ 64 = omega arith in
    let done : Fills (xored_bit c.args.block.now c.args.other.now) 64 64 c.loop-i.block =
    subst (λ (i : ℕ). Fills (xored_bit c.args.block.now c.args.other.now) 64 i c.loop-i.block) all c.loop-i.invariant.fills in
    lane_word-xor lane c.args.block.now c.args.other.now c.loop-i.block (omega arith) (omega arith) done.len
    (xored_is c.args.block.now c.args.other.now c.loop-i.block done (omega arith) (omega arith) lane)
