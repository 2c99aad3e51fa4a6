-- The text of a stop is one line.
use Rattle.std.proofs.Common.{◌≡◌, arith}
use Rattle.std.proofs.lemmas.Grind.{common_steps}
use Rattle.answer_text.specs.StopText.{stop_text, stop_words}
use Rattle.answer_text.proofs.Lines.{stop_text-IsLine}
use Rattle.answer_text.proofs.stop_line.write_stop.Goals as goal

pub returns-clause-line : goal.returns-clause-line
unfolding stop_text stop_words
returns-clause-line c =
    let text : c.push.new.self.items ≡ stop_text c.args.stop.now = grind (arith, common_steps) in
    rw text (stop_text-IsLine c.args.stop.now)
