-- Each pair of digits spells one more byte.
use Rattle.std.proofs.Common.{sym, ◌∙◌, arith}
use Rattle.journal_rec.proofs.Spelling.{spelled_more, spelled_none, spelled_done}
use Rattle.journal_rec.proofs.digits.decode_short.Goals as goal

pub returns-in_default : goal.returns-in_default
returns-in_default c =
    spelled_none c.args.digits.now c.bytes.out c.bytes.i (omega arith) (sym c.byte_of.ensures ∙ c.in_default.is) c.bytes.invariant

pub bytes-preserved : goal.bytes-preserved
bytes-preserved c =
    spelled_more c.args.digits.now c.bytes.out c.bytes.i c.in-Some.byte (omega arith) (omega arith) (sym c.byte_of.ensures ∙ c.in-Some.is) c.bytes.invariant

pub returns : goal.returns
returns c = spelled_done c.args.digits.now c.bytes.out c.bytes.i (omega arith) (omega arith) c.bytes.invariant
