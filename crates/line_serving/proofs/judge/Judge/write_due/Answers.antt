-- All lines that wait are judged and the verdicts written, or nothing is done.
use Rattle.std.proofs.Common.{refl, inr}
use Rattle.line_serving.proofs.Judged.{writes-settled}
use Rattle.line_serving.proofs.judge.Judge.write_due.Goals as goal

pub returns-then-is_due-clause-written : goal.returns-then-is_due-clause-written
returns-then-is_due-clause-written g c = λ records lines text waiting judged.
    writes-settled c.args.issuer.now records c.args.book.now c.settle.new.book lines text waiting
    c.args.self.now.block.text.items c.settle.new.self.block.text.items c.write.new.self.text.items
    c.args.self.now.ahead c.settle.new.self.ahead c.args.self.now.reader c.settle.new.self.reader
    _ _ c.write.result c.settle.ensures.reader c.settle.ensures.none c.write.ensures.none c.settle.ensures.judged
    c.write.ensures.written judged

pub returns-else-is_due-clause-written : goal.returns-else-is_due-clause-written
returns-else-is_due-clause-written g c = λ records lines text waiting judged. inr (refl, refl, refl, refl, judged)
