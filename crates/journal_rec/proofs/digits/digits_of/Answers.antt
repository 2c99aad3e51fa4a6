-- The sum is that of both digits.
use Rattle.journal_rec.proofs.DigitPair.{both_glyphs}
use Rattle.journal_rec.proofs.digits.digits_of.Goals as goal

pub returns : goal.returns
returns c = rw c.from.ensures (both_glyphs c.args.values c.requires.high c.requires.low)
