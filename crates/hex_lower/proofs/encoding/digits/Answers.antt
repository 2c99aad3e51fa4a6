-- The halves of the sum are the digits.
use Rattle.hex_lower.proofs.Digits.{pair_of-high, pair_of-low}
use Rattle.hex_lower.proofs.encoding.digits.Goals as goal

pub returns-clause-high : goal.returns-clause-high
returns-clause-high c =
    rw (c.to_le_bytes.ensures, c.from.ensures, c.from-2.ensures, c.from-3.ensures) (pair_of-high c.args.byte c.ranges.byte.fits)

pub returns-clause-low : goal.returns-clause-low
returns-clause-low c =
    rw (c.to_le_bytes.ensures, c.from.ensures, c.from-2.ensures, c.from-3.ensures) (pair_of-low c.args.byte c.ranges.byte.fits)
