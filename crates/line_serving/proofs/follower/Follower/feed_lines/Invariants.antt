-- The lines so far were read ahead, and the first of them taken.
use Rattle.std.proofs.Common.{◌≡◌, ◌-◌, Ok}
use Rattle.line_reader.specs.declared.limits.TheConstants.{MAX_LINES}
use Rattle.standby_node.specs.Standing.{KeepsShards, shards_in}
use Rattle.standby_node.specs.ReadLines.{IsNoneAhead}
use Rattle.line_serving.specs.Following.{MayRead}
use Rattle.line_serving.specs.Idle.{MayReadOn}
use Rattle.line_serving.proofs.Feeding.{HasFedLines}
use Rattle.line_serving.proofs.follower.Follower.feed_lines.Given as goal

abbrev pub invariant-loop-self : goal.invariant-loop-self
invariant-loop-self g l = record {
  fed : HasFedLines l.issuer l.initial.node (g.I.Source.left l.initial.source) (g.I.Source.left l.source) l.self.reader
      l.self.ahead l.node;
  keeps : KeepsShards l.issuer (shards_in l.initial.node) (Ok tt) (shards_in l.node);
  may : MayRead l.issuer l.self.ahead l.node;
  idle : MayReadOn l.self.reader (IsNoneAhead l.self.ahead);
  stood : g.I.Source.faults l.source ≡ g.I.Source.faults l.initial.source;
  block : l.self.block ≡ l.initial.self.block;
}

abbrev pub decreases-loop-self : goal.decreases-loop-self
decreases-loop-self g l = MAX_LINES - l.self.reader.lines
