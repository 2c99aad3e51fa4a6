-- The bytes of pairs of digits alone.
use Rattle.std.proofs.Common.{ℕ, length, ◌/◌, refl, arith}
use Rattle.chip_request.proofs.PairLoop.{whole_front}
use Rattle.chip_request.proofs.Spelling.{spelled-front}
use Rattle.chip_request.proofs.line_parts.spelled_data.Goals as goal

pub returns-clause-bytes : goal.returns-clause-bytes
returns-clause-bytes c =
    let pairs : ℕ = length c.args.text.now / 2 in
    whole_front c.args.limit pairs pairs c.spell.new.bytes c.args.text.now refl (omega arith)
    (spelled-front c.args.limit pairs pairs c.spell.new.bytes c.args.text.now (omega arith) (omega arith) (omega arith) (omega arith) (omega arith)
    (c.spell.ensures c.if-not-spell.false))
