-- A pair of each half more, up to all 64.
use Rattle.std.proofs.Common.{◌≡◌, ℕ, ◌*◌, arith, subst}
use Rattle.des_lanes.proofs.Pairs.{Fills, Fills_none}
use Rattle.des_lanes.proofs.RoundSteps.{back_bit, back_even, back_odd, back_more, back_is}
use Rattle.des_lanes.proofs.rounds.put_back.Goals as goal

pub loop-i-init : goal.loop-i-init
loop-i-init c = Fills_none _ 64 _ (omega arith)

pub loop-i-preserved : goal.loop-i-preserved
loop-i-preserved c =
    back_more (back_bit c.args.first.now c.args.second.now) c.loop-i.i c.loop-i.block _ _ c.loop-i.invariant (omega arith)
    (λ lane. back_even c.args.first.now c.args.second.now lane c.loop-i.i (omega arith) (omega arith) (omega arith))
    (λ lane. back_odd c.args.first.now c.args.second.now lane c.loop-i.i (omega arith) (omega arith) (omega arith))

pub returns : goal.returns
returns c =
    let all : 2 * c.loop-i.i ≡ 64 = omega arith in
    back_is c.args.first.now c.args.second.now c.loop-i.block
    (subst (λ (n : ℕ). Fills (back_bit c.args.first.now c.args.second.now) 64 n c.loop-i.block) all c.loop-i.invariant)
