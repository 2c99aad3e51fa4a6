-- The next box's output is appended to those of the boxes before, up to all eight.
use Rattle.std.proofs.Common.{◌≡◌, ℕ, refl, arith}
use Rattle.des_block.specs.Tables.{s1, s2, s3, s4, s5, s6, s7, s8, s_boxes}
use Rattle.des_plain.proofs.PlainSteps.{Substitutes, Substitutes_none, Substitutes_more, Substitutes_all}
use Rattle.des_plain.proofs.substituted.Goals as goal

pub loop-i-init : goal.loop-i-init
loop-i-init c = Substitutes_none s_boxes c.args.word

pub loop-i-preserved : goal.loop-i-preserved
unfolding s1 s2 s3 s4 s5 s6 s7 s8 s_boxes
loop-i-preserved c =
    Substitutes_more s_boxes c.args.word c.loop-i.i c.loop-i.out c.box_output.result _ c.loop-i.invariant (omega arith) refl refl c.box_output.ensures

pub returns : goal.returns
unfolding s_boxes
returns c =
    let done : c.loop-i.i ≡ 8 = omega arith in
    Substitutes_all s_boxes c.args.word c.loop-i.out
    (Rattle.std.proofs.Common.subst (λ (i : ℕ). Substitutes s_boxes c.args.word i c.loop-i.out) done c.loop-i.invariant) refl
