-- No field is repeated if no flag is set.
use Rattle.std.proofs.Common.{sym, ap, ◌∙◌, arith, false, replicate}
use Rattle.std.proofs.Math.Bool.{beq}
use Rattle.std.specs.Cmp.Lexicographic.{pointwise}
use Rattle.chip_request.proofs.Sizes.{same_marks, same_marks-refl, single_slots, sized_slots, right_slots}
use Rattle.chip_request.proofs.slots.are_single.Goals as goal

pub returns-clause-right : goal.returns-clause-right
returns-clause-right c = λ right.
    let single = single_slots c.args._firsts.now c.args.are_repeated.now (omega arith) (omega arith) right in
    c.eq.ensures ∙ ap (λ marks. pointwise beq marks (replicate 15 false)) single ∙ same_marks-refl (replicate 15 false)

pub returns-clause-sized : goal.returns-clause-sized
returns-clause-sized c = λ right. sized_slots c.args._firsts.now c.args.are_repeated.now (omega arith) (omega arith) right

pub returns-clause-makes : goal.returns-clause-makes
returns-clause-makes c = λ is sizes made makes.
    right_slots c.args._firsts.now c.args.are_repeated.now (omega arith) (same_marks _ _ (sym c.eq.ensures ∙ is)) sizes made makes
