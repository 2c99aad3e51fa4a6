-- The first of the lines that wait are judged.
use Rattle.std.proofs.Common.{◌≡◌, ◌+◌, ◌++◌, ℕ, List, length, take}
use Rattle.clearing_check.specs.ClearingLine.{AreAhead}
use Rattle.clearing_check.specs.ClearText.{after_lines, verdicts_text}
use Rattle.line_serving.proofs.judge.Judge.settle.Given as goal

abbrev pub invariant-loop-index : goal.invariant-loop-index
invariant-loop-index l = record {
  judged : (lines : List (List ℕ)) → AreAhead l.issuer lines l.fn.self.ahead
      → (l.book ≡ after_lines l.issuer l.fn.book (take l.index lines))
      × (l.self.block.text.items ≡ l.fn.self.block.text.items ++ verdicts_text l.issuer l.fn.book (take l.index lines));
  same : (lines : List (List ℕ)) → AreAhead l.issuer lines l.fn.self.ahead → AreAhead l.issuer lines l.self.ahead;
  waiting : length l.self.ahead.found ≡ length l.fn.self.ahead.found;
  count : l.self.block.lines ≡ l.fn.self.block.lines + l.index;
  reader : l.self.reader ≡ l.fn.self.reader;
}
