-- The tables' values of two digits add up to their byte.
use Rattle.std.proofs.Common.{arith}
use Rattle.chip_request.proofs.HexTable.{pair_at_bytes, pair_fits}
use Rattle.chip_request.proofs.hex_digits.pair_value.Goals as goal

pub overflow_add-result : goal.overflow_add-result
overflow_add-result c =
    rw (c.from.ensures, c.from-2.ensures) (let fits = pair_fits c.args.high c.args.low 0 0 (omega arith) (omega arith) in omega arith)

pub returns : goal.returns
returns c = rw (c.from.ensures, c.from-2.ensures) (pair_at_bytes c.args.high c.args.low 0 0 (omega arith) (omega arith))
