-- The first that waits goes.
use Rattle.std.proofs.Common.{sym, subst, ◌∙◌}
use Rattle.bridge_rule.specs.Bridges.{BridgeState}
use Rattle.bridge_rule.specs.Events.{DoesReply}
use Rattle.bridge_rule.proofs.Waiting.{releases}
use Rattle.bridge_rule.proofs.bridge.Bridge.release.Goals as goal

pub returns-clause-event : goal.returns-clause-event
returns-clause-event c world stands =
    let one = c.in_ok-first.first in
    subst (λ (new : BridgeState). DoesReply new world one.reply one.place) (sym c.pop_first.ensures)
    (releases c.args.self.now world c.requires.role stands one (sym c.in_ok-first.ensures) (sym c.may_go.ensures ∙ c.if-not-may_go.false))
