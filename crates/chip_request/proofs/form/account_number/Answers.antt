-- The account number, if all nibbles are its digits.
use Rattle.std.proofs.Common.{sym, ap, ◌∙◌, arith}
use Rattle.issuer_base.specs.CardNumber.{pan_from}
use Rattle.chip_request.proofs.DecimalValues.{digits_alone}
use Rattle.chip_request.proofs.form.account_number.Goals as goal

pub returns-in-Some : goal.returns-in-Some
returns-in-Some c = digits_alone c.args.value.now c.in-Some.pan (omega arith) (omega arith) (sym c.in-Some.ensures)

pub returns-in-Some-new : goal.returns-in-Some-new
returns-in-Some-new c =
    digits_alone c.args.value.now c.in-Some-new.pan (omega arith) (omega arith)
    (ap pan_from (sym c.nibbles_of-spread.ensures) ∙ sym c.in-Some-new.ensures)
