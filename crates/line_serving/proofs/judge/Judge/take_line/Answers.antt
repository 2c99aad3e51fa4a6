-- A line waits, and all that wait are judged once they are as many as are checked together.
use Rattle.std.proofs.Common.{ℕ, List, [], ◌∷◌, ◌++◌, subst}
use Rattle.clearing_check.specs.ClearingLine.{AreAhead}
use Rattle.line_serving.proofs.Judged.{takes-settled, takes-waiting}
use Rattle.line_serving.proofs.judge.Judge.take_line.Goals as goal

pub returns-then-is_full-clause-taken : goal.returns-then-is_full-clause-taken
returns-then-is_full-clause-taken c = λ records lines text waiting judged.
    takes-settled c.args.issuer.now records c.args.book.now c.settle.new.book lines text waiting
    c.args.self.now.reader.line c.args.self.now.block.text.items c.settle.new.self.block.text.items
    c.args.self.now.ahead c.add.new.self c.settle.new.self.ahead
    (subst (λ (line : List ℕ). (lines : List (List ℕ)) → AreAhead c.args.issuer.now lines c.args.self.now.ahead
    → AreAhead c.args.issuer.now (lines ++ line ∷ []) c.add.new.self) c.line.ensures c.add.ensures.ahead)
    c.settle.ensures.none c.settle.ensures.judged judged

pub returns-else-is_full-clause-taken : goal.returns-else-is_full-clause-taken
returns-else-is_full-clause-taken c = λ records lines text waiting judged.
    takes-waiting c.args.issuer.now records c.args.book.now lines text waiting c.args.self.now.reader.line
    c.args.self.now.block.text.items c.args.self.now.ahead c.add.new.self
    (subst (λ (line : List ℕ). (lines : List (List ℕ)) → AreAhead c.args.issuer.now lines c.args.self.now.ahead
    → AreAhead c.args.issuer.now (lines ++ line ∷ []) c.add.new.self) c.line.ensures c.add.ensures.ahead)
    judged
