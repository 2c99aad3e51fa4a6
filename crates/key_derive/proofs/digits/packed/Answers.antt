-- All pairs of digits are packed, so the bytes are the packed digits.
use Rattle.std.proofs.Common.{arith}
use Rattle.key_derive.proofs.Packing.{packed-all}
use Rattle.key_derive.proofs.digits.packed.Goals as goal

pub returns : goal.returns
returns g c = packed-all _ _ g.row.N c.requires.pairs c.loop-i.invariant.length_kept (λ k below. c.loop-i.invariant.so_far k (omega arith))
