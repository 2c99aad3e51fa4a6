-- The text of a verdict is one line.
use Rattle.std.proofs.Common.{codes, refl, [], ◌∷◌}
use Rattle.answer_text.proofs.Lines.{line_of-IsLine}
use Rattle.clearing_check.proofs.OneLine.{numbers-IsLine}
use Rattle.clearing_check.proofs.lines.write_verdict.Goals as goal

pub returns-in-WrongKind-clause-line : goal.returns-in-WrongKind-clause-line
returns-in-WrongKind-clause-line c = rw c.write_words.ensures (line_of-IsLine (codes "refused 17" ∷ []) refl)

pub returns-in-Lone-clause-line : goal.returns-in-Lone-clause-line
returns-in-Lone-clause-line c = rw c.write_words-in-Lone.ensures (line_of-IsLine (codes "lone" ∷ []) refl)

pub returns-in-Differs-clause-line : goal.returns-in-Differs-clause-line
returns-in-Differs-clause-line c =
    rw c.write_numbers.ensures (numbers-IsLine (codes "differs") c.from.result c.in-Differs.place refl)

pub returns-in-Declined-clause-line : goal.returns-in-Declined-clause-line
returns-in-Declined-clause-line c =
    rw c.write_numbers-in-Declined.ensures
    (numbers-IsLine (codes "declined") c.from-in-Declined.result c.in-Declined.place refl)

pub returns-in-Against-clause-line : goal.returns-in-Against-clause-line
returns-in-Against-clause-line c =
    rw c.write_numbers-in-Against.ensures
    (numbers-IsLine (codes "against") c.from-in-Against.result c.in-Against.place refl)

pub returns-in-Certified-clause-line : goal.returns-in-Certified-clause-line
returns-in-Certified-clause-line c =
    rw c.write_numbers-in-Certified.ensures
    (numbers-IsLine (codes "certified") c.from-in-Certified.result c.in-Certified.place refl)
