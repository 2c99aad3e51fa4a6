-- Rounds, one after another.
use Rattle.std.proofs.Common.{◌≡◌, ◌+◌, ◌≤◌, List, [], ℕ, length}
use Rattle.line_serving.specs.Durable.{OwesDurable}
use Rattle.shared_callers.specs.Lanes.{waiting_in}
use Rattle.shared_callers.specs.declared.lanes.Lanes.{Lanes}
use Rattle.line_serving.specs.Hosts.{HaveAnswered}
use Rattle.line_serving.proofs.TogetherSteps.{AreInRounds}
use Rattle.line_serving.proofs.together.write_together.Given as goal

abbrev pub invariant-loop-block : goal.invariant-loop-block
invariant-loop-block g l = record {
  rounds : (first : Lanes g.row.S.Denot g.S.Store) (lines : List (List ℕ)) (text : List ℕ) (waiting : List (List ℕ))
      → HaveAnswered first lines text waiting l.fn.host
      → AreInRounds first l.host l.fn.reader l.reader (g.W.Sink.held l.initial.out) (g.W.Sink.held l.out) lines text
      waiting;
  empty : (l.block.text.items ≡ []) × (l.block.lines ≡ 0);
  read : l.fn.reader.lines ≤ l.reader.lines;
  durable : OwesDurable l.host;
  sink_stood : g.W.Sink.faults l.out ≡ g.W.Sink.faults l.initial.out;
}

abbrev pub decreases-loop-block : goal.decreases-loop-block
decreases-loop-block g l = waiting_in l.host + length l.reader.ahead
