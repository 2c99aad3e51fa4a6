-- Judging goes on by a line, and ends in one of its ways.
use Rattle.std.proofs.Common.{rules, inr, refl, ◌∙◌, [], length, ap, arith}
use Rattle.line_blocks.proofs.ServingSteps.{read-none, read-line, read-rest, read-end, read-on}
use Rattle.line_blocks.proofs.ServingSteps.{serves-file, serves-broken_line, serves-fault, serves-limit}
use Rattle.clearing_check.specs.ClearingLine.{LookUps}
use Rattle.line_serving.proofs.Judged.{judged-none}
use Rattle.line_serving.proofs.judge.Judge.judge_lines.Goals as goal

pub loop-self-init : goal.loop-self-init
loop-self-init g c =
    let none = judged-none c.args.issuer.now c.args.book.now c.args.self.now.ahead c.requires.none_waits in
    let count = ap (λ (ahead : LookUps). length ahead.found) c.requires.none_waits in
    let lines = c.requires.no_lines in
    record {
      judged = read-none _ _ _ _ _ none c.requires.reads_first c.requires.none_due;
      room = record {
        may_settle = record {
          waiting = [];
          waits = none.waits;
          few = omega (arith, count);
          fit = omega (arith, count, lines);
        };
        fits = omega (arith, count, lines);
      };
      idle = inr (c.requires.none_waits, c.requires.none_due);
      source_stood = refl;
      sink_stood = refl;
    }

pub loop-self-preserved : goal.loop-self-preserved
loop-self-preserved g c = record {
  judged =
      let taken = read-line _ _ _ _ _ _ _ _ _ _ _ _ c.take_line.ensures.reader c.loop-self.invariant.judged
      (c.take_line.ensures.taken c.args.book.now) (c.in-Line.ensures.found.line refl) in
      read-on _ _ _ _ _ _ _ _ _ _ _ taken (c.in-Ok.ensures.written c.args.book.now);
  room = c.in-Ok.ensures.room;
  idle = c.in-Ok.ensures.idle;
  source_stood = c.in-Line.ensures.count.counted ∙ c.loop-self.invariant.source_stood;
  sink_stood = c.in-Ok.ensures.count.counted ∙ c.loop-self.invariant.sink_stood;
}

pub returns-in-Err-clause-served : goal.returns-in-Err-clause-served
returns-in-Err-clause-served g c =
    let taken = read-line _ _ _ _ _ _ _ _ _ _ _ _ c.take_line.ensures.reader c.loop-self.invariant.judged
    (c.take_line.ensures.taken c.args.book.now) (c.in-Line.ensures.found.line refl) in
    serves-broken_line _ _ _ _ _ _ _ _ _ _ _ taken _ (c.in-Err.ensures.written c.args.book.now)

pub returns-in-Rest-clause-served : goal.returns-in-Rest-clause-served
returns-in-Rest-clause-served g c =
    let taken = read-rest _ _ _ _ _ _ _ _ _ _ _ _ c.take_line-in-Rest.ensures.reader c.loop-self.invariant.judged
    (c.take_line-in-Rest.ensures.taken c.args.book.now) (c.in-Rest.ensures.found.rest refl) in
    serves-file _ _ _ _ _ _ _ _ _ taken (c.end.ensures.ended c.args.book.now)

pub returns-in-End-clause-served : goal.returns-in-End-clause-served
returns-in-End-clause-served g c =
    let taken = read-end _ _ _ _ _ _ _ _ _ c.loop-self.invariant.judged (c.in-End.ensures.found.end refl) in
    serves-file _ _ _ _ _ _ _ _ _ taken (c.end-in-End.ensures.ended c.args.book.now)

pub returns-in-Fault-clause-served : goal.returns-in-Fault-clause-served
returns-in-Fault-clause-served g c =
    serves-fault _ _ _ _ _ _ _ _ _ c.loop-self.invariant.judged _ _ _ (c.in-Fault.ensures.found.fault refl)
    (c.end-in-Fault.ensures.ended c.args.book.now)

pub returns-in-TooLong-clause-served : goal.returns-in-TooLong-clause-served
returns-in-TooLong-clause-served g c =
    serves-limit _ _ _ _ _ _ _ _ _ c.loop-self.invariant.judged _ _ _ _
    (c.in-TooLong.ensures.found.too_long refl) (search rules)
    (c.end-in-TooLong.ensures.ended c.args.book.now)
