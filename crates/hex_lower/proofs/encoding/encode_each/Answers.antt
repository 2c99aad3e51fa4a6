-- Each byte adds two digits.
use Rattle.std.proofs.Common.{arith}
use Rattle.hex.specs.Hex.{lower_digits}
use Rattle.hex.proofs.Pairs.{encode_step, encode_done}
use Rattle.hex_lower.proofs.encoding.encode_each.Goals as goal

pub bytes-preserved : goal.bytes-preserved
bytes-preserved c =
    encode_step lower_digits c.args.bytes.now c.bytes.out c.bytes.i _ _ (omega arith) (omega arith) c.digits.ensures.high
    c.digits.ensures.low c.bytes.invariant

pub returns-clause-digits : goal.returns-clause-digits
returns-clause-digits c = encode_done _ _ _ c.bytes.i (omega arith) (omega arith) c.bytes.invariant
