-- Serving, a line at a time.
use Rattle.std.proofs.Common.{◌≡◌, ◌-◌, []}
use Rattle.line_reader.specs.declared.limits.TheConstants.{MAX_LINES}
use Rattle.line_serving.specs.declared.hosts.LineHost.{LineHost}
use Rattle.line_serving.specs.Hosts.{HasServed, MaySettle, HasRoom, OwesNoAnswer}
use Rattle.line_serving.specs.Idle.{MayReadOn}
use Rattle.line_blocks.proofs.ServingSteps.{HasRead}
use Rattle.line_serving.proofs.serve.Server.serve.Given as goal

abbrev pub invariant-loop-self : goal.invariant-loop-self
invariant-loop-self g l = record {
  served : (first : LineHost g.row.T.Denot g.T.Store) → HasServed first [] [] [] l.initial.host
      → HasRead (λ lines text waiting. HasServed first lines text waiting l.host)
      (g.I.Source.left l.initial.source) (g.I.Source.left l.source) (g.W.Sink.held l.initial.out) (g.W.Sink.held l.out)
      l.self.reader l.self.block.text.items;
  room : HasRoom l.host l.self.block.lines l.self.block.text.items × MaySettle l.host l.self.block.lines l.self.block.text.items;
  idle : MayReadOn l.self.reader (OwesNoAnswer l.host l.self.block);
  source_stood : g.I.Source.faults l.source ≡ g.I.Source.faults l.initial.source;
  sink_stood : g.W.Sink.faults l.out ≡ g.W.Sink.faults l.initial.out;
}

abbrev pub decreases-loop-self : goal.decreases-loop-self
decreases-loop-self g l = MAX_LINES - l.self.reader.lines
