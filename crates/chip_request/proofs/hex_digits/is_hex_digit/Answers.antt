-- The table's value of a digit is below 256.
use Rattle.std.proofs.Common.{arith}
use Rattle.chip_request.proofs.HexTable.{digit_at_byte}
use Rattle.chip_request.proofs.hex_digits.is_hex_digit.Goals as goal

pub returns : goal.returns
returns c = rw c.from.ensures (digit_at_byte c.args.byte 0 (omega arith))
