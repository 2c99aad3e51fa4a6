-- The digits are those of an account number.
use Rattle.std.proofs.Common.{length, ap, arith, IsTrue}
use Rattle.std.proofs.lemmas.Grind.{get_or_default_zero}
use Rattle.issuer_base.specs.CardNumber.{is_pan}
use Rattle.issuer_base.proofs.CardNumberLemmas.{length-pan, digit-pan}
use Rattle.terminal_kernel.proofs.number.number_bytes.Goals as goal

pub paired-requires-clause-size : goal.paired-requires-clause-size
paired-requires-clause-size c = omega (arith, ap length c.digits.ensures.same, (length-pan c.args.pan.now c.digits.ensures.valid).1)

pub paired-requires-clause-digits : goal.paired-requires-clause-digits
paired-requires-clause-digits c =
    let valid : IsTrue (is_pan c.digits.result.now) = rw c.digits.ensures.same c.digits.ensures.valid in
    λ k d below. omega (arith, get_or_default_zero c.digits.result.now k d below, digit-pan c.digits.result.now valid k below)
