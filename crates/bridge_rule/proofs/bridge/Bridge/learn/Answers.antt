-- One more record is known.
use Rattle.std.proofs.Common.{sym, subst}
use Rattle.bridge_rule.specs.Bridges.{BridgeState}
use Rattle.bridge_rule.specs.Events.{DoesLearn}
use Rattle.bridge_rule.proofs.Learning.{learns}
use Rattle.bridge_rule.proofs.bridge.Bridge.learn.Goals as goal

pub returns-then-learn_next-clause-event : goal.returns-then-learn_next-clause-event
returns-then-learn_next-clause-event c ok world stands more =
    subst (λ (new : BridgeState). DoesLearn c.args.self.now.role new world c.args.shard) (sym (c.learn_next.ensures.learned c.if-learn_next.true))
    (learns c.args.self.now world c.args.shard c.args.text.now.items c.learn_next.ensures.within stands more c.requires.role)
