-- The machine parts.
use Rattle.std.proofs.Common.{sym, subst}
use Rattle.one_history.specs.Events.{Part, next}
use Rattle.bridge_rule.specs.Bridges.{BridgeState, StandsIn}
use Rattle.bridge_rule.proofs.Leaving.{parts}
use Rattle.bridge_rule.proofs.bridge.Bridge.part.Goals as goal

pub returns : goal.returns
returns c = record {
  state = c.leave.ensures;
  event = λ world stands. subst (λ (new : BridgeState). StandsIn new (next world (Part c.args.self.now.machine))) (sym c.leave.ensures)
      (parts c.args.self.now world stands);
}
