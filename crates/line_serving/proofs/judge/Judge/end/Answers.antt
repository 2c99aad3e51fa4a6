-- All lines that wait are judged, and the verdicts written.
use Rattle.std.proofs.Common.{refl, inl, inr}
use Rattle.line_serving.proofs.Judged.{finishes}
use Rattle.line_serving.proofs.judge.Judge.end.Goals as goal

pub returns-in-Ok-clause-ended : goal.returns-in-Ok-clause-ended
returns-in-Ok-clause-ended g c = λ records lines text waiting judged.
    finishes c.args.issuer.now records c.args.book.now c.settle.new.book lines text waiting
    c.args.self.now.block.text.items c.settle.new.self.block.text.items c.args.self.now.ahead
    c.settle.new.self.ahead _ _ _ _ c.settle.ensures.none c.settle.ensures.judged
    (inl (refl, c.in-Ok.ensures.written)) judged

pub returns-in-Err-clause-ended : goal.returns-in-Err-clause-ended
returns-in-Err-clause-ended g c = λ records lines text waiting judged.
    finishes c.args.issuer.now records c.args.book.now c.settle.new.book lines text waiting
    c.args.self.now.block.text.items c.settle.new.self.block.text.items c.args.self.now.ahead
    c.settle.new.self.ahead _ _ _ _ c.settle.ensures.none c.settle.ensures.judged
    (inr (refl, c.in-Err.ensures.written)) judged
