-- The value of a digit.
use Rattle.std.proofs.Common.{arith}
use Rattle.chip_request.proofs.HexSteps.{value_at}
use Rattle.chip_request.proofs.hex_digits.digit_value.Goals as goal

pub returns : goal.returns
returns c = rw (c.min.ensures, c.saturating_add-letter.ensures, c.saturating_sub-decimal.ensures) (value_at c.args.byte (omega arith))
