-- The lines that wait are judged one after another, until all are.
use Rattle.std.proofs.Common.{◌≡◌, ◌++◌, ℕ, List, take, refl, ap, sym, ◌∙◌, append-nil, arith}
use Rattle.std.proofs.lemmas.List.{take_all}
use Rattle.std.proofs.lemmas.Slice.Zip.{AllZip-long}
use Rattle.std.specs.Option.{option_map}
use Rattle.clearing_check.specs.ClearingLine.{IsLookUp, presented}
use Rattle.clearing_check.specs.ClearText.{after_lines, verdicts_text}
use Rattle.line_serving.proofs.Judged.{judges-next, known-next, there-next}
use Rattle.line_serving.proofs.judge.Judge.settle.Goals as goal

pub loop-index-init : goal.loop-index-init
loop-index-init c = record {
  judged = λ lines are. (refl, sym (append-nil c.args.self.now.block.text.items));
  same = λ lines are. c.check.ensures.same c.args.issuer.now lines are;
  waiting = c.check.ensures.count;
  count = let lines = c.args.self.now.block.lines in omega arith;
  reader = refl;
}

pub unwrap-found-requires : goal.unwrap-found-requires
unwrap-found-requires c =
    there-next _ _ c.loop-index.self.ahead.found c.loop-index.index c.get.ensures
    (let below = c.loop-index-test.true in let count = c.len-index-end.ensures in
    let all = c.loop-index.invariant.waiting in omega (arith, below, count, all))

pub judge_presented-requires : goal.judge_presented-requires
judge_presented-requires c =
    let is = sym c.get.ensures ∙ ap (option_map (λ found. found.now)) c.unwrap-found.ensures in
    let lines = c.requires.ahead.0 in
    record {
      known = known-next c.args.issuer.now lines c.loop-index.self.ahead c.loop-index.index c.unwrap-found.result.now
          (c.loop-index.invariant.same lines c.requires.ahead.1) is;
    }

pub loop-index-preserved : goal.loop-index-preserved
loop-index-preserved c =
    let before = c.loop-index.invariant in
    let is = sym c.get.ensures ∙ ap (option_map (λ found. found.now)) c.unwrap-found.ensures in
    record {
      judged = λ lines are.
          judges-next c.args.issuer.now c.args.book.now c.loop-index.book c.judge_presented.new.self lines
          c.loop-index.self.ahead c.loop-index.index c.unwrap-found.result.now c.judge_presented.result
          c.args.self.now.block.text.items c.loop-index.self.block.text.items c.add_line.new.self.text.items
          (before.same lines are) is c.judge_presented.ensures.verdict c.judge_presented.ensures.certified
          (c.add_line.ensures.text
          ∙ ap (λ (t : List ℕ). c.loop-index.self.block.text.items ++ t) c.write_verdict.ensures.text)
          (before.judged lines are);
      same = before.same;
      waiting = before.waiting;
      count = omega (arith, before.count, c.add_line.ensures.lines);
      reader = before.reader;
    }

pub returns-clause-judged : goal.returns-clause-judged
returns-clause-judged c = λ lines are.
    let so_far = c.loop-index.invariant.judged lines are in
    let long = AllZip-long (λ line found. IsLookUp c.args.issuer.now (presented c.args.issuer.now line) found) lines
    c.args.self.now.ahead.found are.found_are in
    let all : take c.loop-index.index lines ≡ lines =
    take_all c.loop-index.index lines (let below = c.loop-index-test.false in let count = c.len-index-end.ensures in
    let same = c.loop-index.invariant.waiting in omega (arith, below, count, same, long)) in (
      so_far.0 ∙ ap (after_lines c.args.issuer.now c.args.book.now) all,
      so_far.1
          ∙ ap (λ (ls : List (List ℕ)). c.args.self.now.block.text.items ++ verdicts_text c.args.issuer.now c.args.book.now ls) all,
    )
