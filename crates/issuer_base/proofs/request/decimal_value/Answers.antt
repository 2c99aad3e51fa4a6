-- The number of an amount's bytes, byte by byte, stays below ten to the twelfth.
use Rattle.std.proofs.Common.{◌<◌, length, arith}
use Rattle.issuer_base.proofs.Decimal.{decimal-more, decimal-below_six}
use Rattle.issuer_base.proofs.request.decimal_value.Goals as goal

pub overflow_mul-value : goal.overflow_mul-value
overflow_mul-value c =
    let small = decimal-below_six c.args.amount.now c.requires c.told-amount c.loop-byte.byte-index (omega arith) in
    omega (arith, c.loop-byte.invariant, small)

pub overflow_add-value : goal.overflow_add-value
overflow_add-value c =
    let small = decimal-below_six c.args.amount.now c.requires c.told-amount c.loop-byte.byte-index (omega arith) in
    omega (arith, c.loop-byte.invariant, small, c.from.ensures, c.fits-amount c.loop-byte.byte-index)

pub loop-byte-preserved : goal.loop-byte-preserved
loop-byte-preserved c =
    let here : c.loop-byte.byte-index < length c.args.amount.now = omega arith in
    rw c.from.ensures (decimal-more c.args.amount.now _ _ here c.loop-byte.invariant)

pub returns-clause-below : goal.returns-clause-below
returns-clause-below c =
    let small = decimal-below_six c.args.amount.now c.requires c.told-amount c.loop-byte.byte-index (omega arith) in
    omega (arith, c.loop-byte.invariant, small)
