-- Two rounds with the next two keys are two more rounds, and IP before them and its inverse after them are the cipher.
use Rattle.std.proofs.Common.{◌≡◌, ℕ, ◌+◌, ◌*◌, arith, subst}
use Rattle.des_block.specs.Bits.{picked}
use Rattle.des_block.specs.Tables.{initial_permutation}
use Rattle.des_lanes.specs.Lanes.{bits_at}
use Rattle.des_lanes.proofs.RoundSteps.{Rounds, Rounds_none, Rounds_more, Rounds_all}
use Rattle.des_lanes.proofs.rounds.cipher.Goals as goal

pub loop-i-init : goal.loop-i-init
loop-i-init c = Rounds_none c.args.order.now c.args.keys.now c.half-left.result c.half-right.result (omega arith) (omega arith)

pub loop-i-preserved : goal.loop-i-preserved
loop-i-preserved c =
    let k : ℕ = 2 * c.loop-i.i in
    let two_more : k + 1 + 1 ≡ 2 * (c.loop-i.i + 1) = omega arith in
    let one =
    Rounds_more c.args.order.now c.args.keys.now _ _ k c.loop-i.left c.loop-i.right c.mix.new.left
    c.loop-i.invariant (omega arith) (omega arith) c.mix.ensures in
    subst
    (λ (n : ℕ). Rounds c.args.order.now c.args.keys.now c.half-left.result c.half-right.result n c.mix.new.left c.mix-in-loop-i.new.left) two_more
    (Rounds_more c.args.order.now c.args.keys.now _ _ (k + 1) c.loop-i.right c.mix.new.left c.mix-in-loop-i.new.left one
    (omega arith) (omega arith) c.mix-in-loop-i.ensures)

pub returns : goal.returns
unfolding bits_at picked initial_permutation
returns c =
    Rounds_all c.args.order.now c.args.keys.now c.args.block.now c.half-left.result c.half-right.result
    c.loop-i.left c.loop-i.right c.put_back.new.block (2 * c.loop-i.i) c.loop-i.invariant (omega arith)
    c.half-left.ensures c.half-right.ensures c.put_back.ensures
