-- Both halves rotated, and the bits selected from them, are the next round key, up to sixteen.
use Rattle.std.proofs.Common.{◌≡◌, ℕ, refl, arith, subst}
use Rattle.des_block.specs.Tables.{key_choice_left, key_choice_right, round_key_choice, rotations}
use Rattle.des_plain.proofs.PlainSteps.{MakesKeys, MakesKeys_none, MakesKeys_more, MakesKeys_all}
use Rattle.des_plain.proofs.round_keys.Goals as goal

pub loop-i-init : goal.loop-i-init
unfolding key_choice_left key_choice_right
loop-i-init c = MakesKeys_none c.args.key c.picked-left.result c.picked-right.result _ refl c.picked-left.ensures c.picked-right.ensures

pub loop-i-preserved : goal.loop-i-preserved
unfolding rotations round_key_choice
loop-i-preserved c =
    MakesKeys_more c.args.key c.loop-i.i c.loop-i.left c.loop-i.right c.loop-i.keys _ c.turned-left.result c.turned-right.result c.picked.result
    c.loop-i.invariant (omega arith) refl c.turned-left.ensures c.turned-right.ensures c.picked.ensures

pub returns : goal.returns
returns c =
    let done : c.loop-i.i ≡ 16 = omega arith in
    MakesKeys_all c.args.key c.loop-i.left c.loop-i.right c.loop-i.keys
    (subst (λ (i : ℕ). MakesKeys c.args.key i c.loop-i.left c.loop-i.right c.loop-i.keys) done c.loop-i.invariant)
