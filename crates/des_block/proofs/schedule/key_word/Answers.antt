-- The word of the bytes so far, from no byte to all of them.
use Rattle.std.proofs.Common.{◌≡◌, ◌-◌, ◌*◌, ◌/◌, ◌^◌, sym, ap, ◌∙◌, arith}
use Rattle.des_block.specs.Schedule.{key_choice}
use Rattle.des_block.proofs.Linear.{word_picked, picked_additive, at_zero}
use Rattle.des_block.proofs.KeyRows.{word_more}
use Rattle.des_block.proofs.schedule.key_word.Goals as goal

pub loop-j-init : goal.loop-j-init
loop-j-init c =
    let none : c.args.key / 2 ^ 64 * 2 ^ 64 ≡ 0 = omega arith in
    sym (ap (word_picked 64 (key_choice c.args.i)) none ∙ at_zero (word_picked 64 (key_choice c.args.i)) (picked_additive 64 (key_choice c.args.i)))

pub loop-j-preserved : goal.loop-j-preserved
loop-j-preserved c = word_more c.args.key c.loop-j.j c.args.i c.loop-j.word (omega arith) (omega arith) c.loop-j.invariant

pub returns : goal.returns
returns c =
    let done : 64 - 8 * c.loop-j.j ≡ 0 = omega arith in
    let whole : c.args.key / 2 ^ 0 * 2 ^ 0 ≡ c.args.key = omega arith in
    c.loop-j.invariant ∙ ap (λ n. word_picked 64 (key_choice c.args.i) (c.args.key / 2 ^ n * 2 ^ n)) done ∙ ap (word_picked 64 (key_choice c.args.i)) whole
