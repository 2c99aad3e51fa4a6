-- The first field with a fault.
use Rattle.std.proofs.Common.{sym, ◌∙◌, arith}
use Rattle.chip_request.proofs.Walk.{look_behind, look_here, look_end}
use Rattle.chip_request.proofs.slots.first_wrong_among.Goals as goal

pub returns-then-is_wrong : goal.returns-then-is_wrong
returns-then-is_wrong c =
    look_here c.args.wrong c.table-field-items.result.now c.args.firsts.now c.args.are_repeated.now c.loop-place.place _ _
    c.loop-place-test.true (omega arith) (omega arith) c.table-field-items.ensures (sym c.is_wrong.ensures ∙ c.if-is_wrong.true) ∙ c.loop-place.invariant

pub loop-place-preserved : goal.loop-place-preserved
loop-place-preserved c =
    look_behind c.args.wrong c.table-field-items.result.now c.args.firsts.now c.args.are_repeated.now c.loop-place.place _ _
    c.loop-place-test.true (omega arith) (omega arith) c.table-field-items.ensures (sym c.is_wrong.ensures ∙ c.if-is_wrong.false) ∙ c.loop-place.invariant

pub returns : goal.returns
returns c =
    sym (look_end c.args.wrong c.args.firsts.now c.args.are_repeated.now c.loop-place.place c.loop-place-test.false (omega arith) (omega arith))
    ∙ c.loop-place.invariant
