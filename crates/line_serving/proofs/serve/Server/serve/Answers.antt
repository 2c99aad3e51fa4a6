-- Serving goes on by a line, and ends in one of its ways.
use Rattle.std.proofs.Common.{ℕ, List, [], inr, rules, refl, subst, sym, ◌∙◌}
use Rattle.line_blocks.proofs.ServingSteps.{kept-given, read-none, read-line, read-rest, read-end, read-on}
use Rattle.line_blocks.proofs.ServingSteps.{serves-file, serves-broken_line, serves-fault}
use Rattle.line_blocks.proofs.ServingSteps.{serves-limit}
use Rattle.line_serving.specs.Hosts.{HasRoom, IsIdle, MaySettle}
use Rattle.line_serving.proofs.serve.Server.serve.Goals as goal

pub loop-self-init : goal.loop-self-init
loop-self-init g c = record {
  served = λ first starts. read-none _ _ _ _ _ starts c.requires.new.reads_first c.requires.new.none_due;
  room =
      let lines = c.requires.new.no_lines in
      let due = c.requires.new.none_due in (
        subst (λ (due : List ℕ). HasRoom c.args.host.now c.args.self.now.block.lines due) (sym due)
            (subst (λ (lines : ℕ). HasRoom c.args.host.now lines []) (sym lines) c.requires.idle.room),
        subst (λ (due : List ℕ). MaySettle c.args.host.now c.args.self.now.block.lines due) (sym due)
            (subst (λ (lines : ℕ). MaySettle c.args.host.now lines []) (sym lines) c.requires.idle.may_settle),
      );
  idle = inr (record {
    idle = subst (IsIdle c.args.host.now) (sym c.requires.new.no_lines) c.requires.idle;
    none_due = c.requires.new.none_due;
  });
  source_stood = refl;
  sink_stood = refl;
}

pub take_line-requires-clause-kept : goal.take_line-requires-clause-kept
take_line-requires-clause-kept g c = kept-given _ _ _ _ (c.in-Line.ensures.found.line refl).counted

pub take_line-requires-in-Rest-clause-kept : goal.take_line-requires-in-Rest-clause-kept
take_line-requires-in-Rest-clause-kept g c = kept-given _ _ _ _ (c.in-Rest.ensures.found.rest refl).counted

pub loop-self-preserved : goal.loop-self-preserved
loop-self-preserved g c = record {
  served = λ first starts.
      let taken = read-line _ _ _ _ _ _ _ _ _ _ _ _ c.take_line.ensures.reader
      (c.loop-self.invariant.served first starts)
      (c.take_line.ensures.taken first) (c.in-Line.ensures.found.line refl) in
      read-on _ _ _ _ _ _ _ _ _ _ _ taken (c.in-Ok.ensures.written first);
  room = c.in-Ok.ensures.room;
  idle = c.in-Ok.ensures.idle;
  source_stood = c.in-Line.ensures.count.counted ∙ c.loop-self.invariant.source_stood;
  sink_stood = c.in-Ok.ensures.count.counted ∙ c.loop-self.invariant.sink_stood;
}

pub returns-in-Err-clause-served : goal.returns-in-Err-clause-served
returns-in-Err-clause-served g c = λ first starts.
    let taken = read-line _ _ _ _ _ _ _ _ _ _ _ _ c.take_line.ensures.reader (c.loop-self.invariant.served first starts)
    (c.take_line.ensures.taken first) (c.in-Line.ensures.found.line refl) in
    serves-broken_line _ _ _ _ _ _ _ _ _ _ _ taken _ (c.in-Err.ensures.written first)

pub returns-in-Rest-clause-served : goal.returns-in-Rest-clause-served
returns-in-Rest-clause-served g c = λ first starts.
    let taken = read-rest _ _ _ _ _ _ _ _ _ _ _ _ c.take_line-in-Rest.ensures.reader
    (c.loop-self.invariant.served first starts)
    (c.take_line-in-Rest.ensures.taken first) (c.in-Rest.ensures.found.rest refl) in
    serves-file _ _ _ _ _ _ _ _ _ taken (c.end.ensures.ended first)

pub returns-in-End-clause-served : goal.returns-in-End-clause-served
returns-in-End-clause-served g c = λ first starts.
    let taken = read-end _ _ _ _ _ _ _ _ _ (c.loop-self.invariant.served first starts) (c.in-End.ensures.found.end refl) in
    serves-file _ _ _ _ _ _ _ _ _ taken (c.end-in-End.ensures.ended first)

pub returns-in-Fault-clause-served : goal.returns-in-Fault-clause-served
returns-in-Fault-clause-served g c = λ first starts.
    serves-fault _ _ _ _ _ _ _ _ _ (c.loop-self.invariant.served first starts) _ _ _ (c.in-Fault.ensures.found.fault refl)
    (c.end-in-Fault.ensures.ended first)

pub returns-in-TooLong-clause-served : goal.returns-in-TooLong-clause-served
returns-in-TooLong-clause-served g c = λ first starts.
    serves-limit _ _ _ _ _ _ _ _ _ (c.loop-self.invariant.served first starts) _ _ _ _
    (c.in-TooLong.ensures.found.too_long refl) (search rules)
    (c.end-in-TooLong.ensures.ended first)
