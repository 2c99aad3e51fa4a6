-- Each digit of an account number is at most 9, and there are at most 19.
use Rattle.std.proofs.Common.{◌<◌, IsTrue, length, ap, arith}
use Rattle.issuer_base.specs.CardNumber.{is_pan}
use Rattle.issuer_base.proofs.CardNumberLemmas.{digit-pan, length-pan}
use Rattle.answer_text.proofs.card_words.put_pan.Goals as goal

pub overflow_add-digit : goal.overflow_add-digit
overflow_add-digit c =
    let valid : IsTrue (is_pan c.digits-digits.result.now) = rw c.digits-digits.ensures.same c.digits-digits.ensures.valid in
    let below : c.loop-digit.digit-index < length c.digits-digits.result.now = omega arith in
    omega (arith, digit-pan c.digits-digits.result.now valid c.loop-digit.digit-index below)

pub push-requires : goal.push-requires
push-requires c =
    omega (arith, c.requires, c.loop-digit.invariant.1, ap length c.digits-digits.ensures.same, (length-pan c.args.pan.now c.digits-digits.ensures.valid).1)

pub returns-clause-room : goal.returns-clause-room
returns-clause-room c =
    omega (arith, c.loop-digit.invariant.1, ap length c.digits-digits.ensures.same, (length-pan c.args.pan.now c.digits-digits.ensures.valid).1)
