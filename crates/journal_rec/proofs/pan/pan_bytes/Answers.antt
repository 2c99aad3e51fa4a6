-- The digits of an account number and its padding are nibbles.
use Rattle.std.proofs.Common.{◌<◌, All, IsTrue, length, subst, sym, ap, arith}
use Rattle.issuer_base.specs.CardNumber.{is_pan}
use Rattle.issuer_base.proofs.CardNumberLemmas.{length-pan}
use Rattle.journal_rec.proofs.PanLemmas.{nibbles-below}
use Rattle.journal_rec.proofs.pan.pan_bytes.Goals as goal

pub filled-requires : goal.filled-requires
filled-requires c = omega (arith, ap length c.digits.ensures.same, (length-pan c.args.pan.now c.digits.ensures.valid).1)

pub packed-requires-clause-nibbles : goal.packed-requires-clause-nibbles
packed-requires-clause-nibbles c =
    let valid : IsTrue (is_pan c.digits.result.now) = rw c.digits.ensures.same c.digits.ensures.valid in
    subst (All (λ nibble. nibble < 16)) (sym c.filled.ensures) (nibbles-below c.digits.result.now _ valid)
