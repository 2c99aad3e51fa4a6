-- The machine's host ends.
use Rattle.std.proofs.Common.{sym, subst}
use Rattle.bridge_rule.specs.Bridges.{BridgeState}
use Rattle.bridge_rule.specs.Events.{DoesEnd}
use Rattle.bridge_rule.proofs.Leaving.{ends-host}
use Rattle.bridge_rule.proofs.bridge.Bridge.host_ended.Goals as goal

pub returns : goal.returns
returns c = record {
  state = c.clear_held.ensures;
  event = λ world keep stands keeps. subst (λ (new : BridgeState). DoesEnd new world keep) (sym c.clear_held.ensures)
      (ends-host c.args.self.now world keep c.requires.role stands keeps);
}
