-- One more byte is set to odd parity.
use Rattle.std.proofs.Common.{arith}
use Rattle.key_derive.specs.MasterKey.{with_odd_parity}
use Rattle.key_derive.proofs.Blocks.{map-over}
use Rattle.key_derive.proofs.master.in_odd_parity.Goals as goal

pub loop-byte-preserved : goal.loop-byte-preserved
loop-byte-preserved c = map-over with_odd_parity c.args.key.0 c.loop-byte.byte-items c.loop-byte.byte-index _
    (omega arith) c.loop-byte.invariant c.with_odd_parity.ensures
