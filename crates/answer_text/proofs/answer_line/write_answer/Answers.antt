-- The text of an answer is one line.
use Rattle.std.proofs.Common.{◌≡◌, rules}
use Rattle.answer_text.specs.AnswerText.{answer_words, printed}
use Rattle.answer_text.proofs.Lines.{printed-IsLine}
use Rattle.answer_text.proofs.answer_line.write_answer.Goals as goal

pub returns-clause-line : goal.returns-clause-line
unfolding printed answer_words
returns-clause-line c =
    let text : c.push.new.self.items ≡ printed c.args.answer.now = search rules in
    rw text (printed-IsLine c.args.answer.now)
