-- One more answer waits.
use Rattle.std.proofs.Common.{sym, subst}
use Rattle.bridge_rule.specs.Bridges.{BridgeState}
use Rattle.bridge_rule.specs.Events.{DoesHold}
use Rattle.bridge_rule.proofs.Waiting.{waits}
use Rattle.bridge_rule.proofs.bridge.Bridge.hold.Goals as goal

pub returns-then-hold_last-clause-event : goal.returns-then-hold_last-clause-event
returns-then-hold_last-clause-event c ok world stands =
    subst (λ (new : BridgeState). DoesHold new world c.args.held.reply c.args.held.place) (sym (c.hold_last.ensures.held c.if-hold_last.true))
    (waits c.args.self.now world c.requires.role stands c.args.held c.requires.known)
