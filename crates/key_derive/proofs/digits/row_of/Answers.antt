-- An account number has at most 19 digits, so it fits into the row, followed by the card's sequence number.
use Rattle.std.proofs.Common.{sym, refl, subst, arith}
use Rattle.issuer_base.proofs.CardNumberLemmas.{length-pan}
use Rattle.key_derive.proofs.Packing.{row-written, length-row_part}
use Rattle.key_derive.proofs.Nibbles.{AreNibbles, AreNibbles-row}
use Rattle.key_derive.proofs.digits.row_of.Goals as goal

pub returns-clause-within : goal.returns-clause-within
returns-clause-within c = (length-pan c.args.pan.now c.digits-digits.ensures.valid).1

pub overflow_sub-start : goal.overflow_sub-start
overflow_sub-start c =
    let within = length-pan c.args.pan.now c.digits-digits.ensures.valid in
    let same = c.digits-digits.ensures.same in
    rw same (omega (arith, within.1))

pub copy_from_slice-requires : goal.copy_from_slice-requires
copy_from_slice-requires c =
    let within = length-pan c.args.pan.now c.digits-digits.ensures.valid in
    length-row_part c.args.pan.now c.digits-digits.result.now _ (omega (arith, within.1)) refl c.digits-digits.ensures.same

pub returns-clause-exact : goal.returns-clause-exact
returns-clause-exact c =
    let within = length-pan c.args.pan.now c.digits-digits.ensures.valid in
    row-written c.args.pan.now c.digits-digits.result.now c.copy_from_slice.new.self c.args.psn (omega
    (arith, within.1)) c.digits-digits.ensures.same c.copy_from_slice.ensures.after

pub returns-clause-nibbles : goal.returns-clause-nibbles
returns-clause-nibbles c =
    let within = length-pan c.args.pan.now c.digits-digits.ensures.valid in
    let row = row-written c.args.pan.now c.digits-digits.result.now c.copy_from_slice.new.self c.args.psn (omega
    (arith, within.1)) c.digits-digits.ensures.same c.copy_from_slice.ensures.after in
    subst AreNibbles (sym row) (AreNibbles-row _ c.args.pan.now c.args.psn c.digits-digits.ensures.valid (omega arith))
