-- Bytes that pass the test are digits.
use Rattle.std.proofs.Common.{sym, ◌∙◌}
use Rattle.bridge_lines.proofs.Numerals.{all-digits}
use Rattle.bridge_lines.proofs.words.are_digits.Goals as goal

pub returns-clause-digits : goal.returns-clause-digits
returns-clause-digits c = λ yes. all-digits c.args.word.now (sym c.pass_digits.ensures ∙ yes)
