-- Each pair of digits spells one more byte.
use Rattle.std.proofs.Common.{arith}
use Rattle.journal_rec.proofs.Spelling.{spelled_step, spelled_end}
use Rattle.journal_rec.proofs.digits.decode_long.Goals as goal

pub bytes-preserved : goal.bytes-preserved
bytes-preserved c =
    spelled_step c.args.digits.now c.bytes.out c.bytes.i _ c.bytes.are_digits _ (omega arith) (omega arith) c.byte_by_sums-byte.ensures c.bytes.invariant

pub returns : goal.returns
returns c = spelled_end c.args.digits.now c.bytes.out c.bytes.i c.bytes.are_digits (omega arith) (omega arith) c.bytes.invariant
