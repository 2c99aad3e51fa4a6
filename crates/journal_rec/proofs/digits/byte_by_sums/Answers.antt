-- The sums are the byte if their digits are the two digits.
use Rattle.std.proofs.Common.{◌≡◌, ◌+◌, ◌*◌, ap₂, ◌∙◌, arith}
use Rattle.journal_rec.proofs.HexText.{glyph}
use Rattle.journal_rec.proofs.DigitPair.{both_bits-apart, byte_of-sums}
use Rattle.journal_rec.proofs.digits.byte_by_sums.Goals as goal

pub overflow_cast-byte : goal.overflow_cast-byte
overflow_cast-byte c =
    let apart = both_bits-apart c.args.high c.args.low (c.from.result + 256 * c.from-2.result) c.ranges.high.fits c.ranges.low.fits (omega arith) in
    omega arith

pub digits_of-requires-clause-high : goal.digits_of-requires-clause-high
digits_of-requires-clause-high c =
    let apart = both_bits-apart c.args.high c.args.low (c.from.result + 256 * c.from-2.result) c.ranges.high.fits c.ranges.low.fits (omega arith) in
    omega arith

pub returns : goal.returns
returns c =
    let digits = c.from.result + 256 * c.from-2.result in
    let whole : digits ≡ c.args.high + 256 * c.args.low = omega arith in
    let apart = both_bits-apart c.args.high c.args.low digits c.ranges.high.fits c.ranges.low.fits whole in
    byte_of-sums c.args.high c.args.low digits c.digits_of.result _ c.ranges.high.fits c.ranges.low.fits whole
    (c.digits_of.ensures ∙ ap₂ (λ h l. glyph h + 256 * glyph l) apart.0 apart.1) (ap₂ (λ h l. 16 * h + l) apart.0 apart.1)
