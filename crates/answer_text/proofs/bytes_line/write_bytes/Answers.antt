-- The text of bytes is one line.
use Rattle.std.proofs.Common.{◌≡◌, rules}
use Rattle.answer_text.specs.AnswerText.{bytes_text}
use Rattle.answer_text.proofs.Lines.{bytes_text-IsLine}
use Rattle.answer_text.proofs.bytes_line.write_bytes.Goals as goal

pub returns-clause-line : goal.returns-clause-line
returns-clause-line c =
    let text : c.push.new.self.items ≡ bytes_text c.args.bytes.now = search rules in
    rw text (bytes_text-IsLine c.args.bytes.now)
