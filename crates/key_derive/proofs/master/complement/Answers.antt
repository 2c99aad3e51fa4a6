-- One more byte has all its bits inverted.
use Rattle.std.proofs.Common.{bit_xor, refl, arith}
use Rattle.key_derive.proofs.Blocks.{map-over}
use Rattle.key_derive.proofs.master.complement.Goals as goal

pub loop-byte-preserved : goal.loop-byte-preserved
loop-byte-preserved c = map-over (λ byte. bit_xor byte 0xFF) c.args.block c.loop-byte.byte-items c.loop-byte.byte-index _
    (omega arith) c.loop-byte.invariant refl
