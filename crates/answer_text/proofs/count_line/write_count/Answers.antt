-- The text of a shard's number of records is one line.
use Rattle.std.proofs.Common.{◌≡◌, arith}
use Rattle.std.proofs.lemmas.Grind.{common_steps}
use Rattle.answer_text.specs.CountText.{count_text}
use Rattle.answer_text.proofs.Lines.{count_text-IsLine}
use Rattle.answer_text.proofs.count_line.write_count.Goals as goal

pub returns-clause-line : goal.returns-clause-line
unfolding count_text
returns-clause-line c =
    let text : c.push.new.self.items ≡ count_text c.args.shard c.args.count = grind (arith, common_steps) in
    rw text (count_text-IsLine c.args.shard c.args.count)
