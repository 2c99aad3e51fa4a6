-- Judging, a line at a time.
use Rattle.std.proofs.Common.{◌≡◌, ◌-◌, []}
use Rattle.line_reader.specs.declared.limits.TheConstants.{MAX_LINES}
use Rattle.line_blocks.proofs.ServingSteps.{HasRead}
use Rattle.clearing_check.specs.ClearingLine.{none_ahead}
use Rattle.line_serving.specs.Clearing.{HasJudged, TakesMore}
use Rattle.line_serving.specs.Idle.{MayReadOn}
use Rattle.line_serving.proofs.judge.Judge.judge_lines.Given as goal

abbrev pub invariant-loop-self : goal.invariant-loop-self
invariant-loop-self g l = record {
  judged : HasRead (λ lines text waiting. HasJudged l.issuer l.initial.book l.book lines text waiting l.self.ahead)
      (g.I.Source.left l.initial.source) (g.I.Source.left l.source) (g.W.Sink.held l.initial.out) (g.W.Sink.held l.out)
      l.self.reader l.self.block.text.items;
  room : TakesMore l.issuer l.self;
  idle : MayReadOn l.self.reader ((l.self.ahead ≡ none_ahead) × (l.self.block.text.items ≡ []));
  source_stood : g.I.Source.faults l.source ≡ g.I.Source.faults l.initial.source;
  sink_stood : g.W.Sink.faults l.out ≡ g.W.Sink.faults l.initial.out;
}

abbrev pub decreases-loop-self : goal.decreases-loop-self
decreases-loop-self g l = MAX_LINES - l.self.reader.lines
