-- The bridge stands for the machine that starts from the position.
use Rattle.std.proofs.Common.{sym, subst}
use Rattle.one_history.specs.Events.{Crash, next}
use Rattle.bridge_rule.specs.Bridges.{BridgeState, StandsIn}
use Rattle.bridge_rule.proofs.Beginnings.{begins}
use Rattle.bridge_rule.proofs.bridge.Bridge.new.Goals as goal

pub returns-clause-start : goal.returns-clause-start
returns-clause-start c world keep keeps position =
    subst (λ (bridge : BridgeState). StandsIn bridge (next world (Crash c.args.machine.items keep))) (sym c.in_ok-bridge.ensures)
    (begins c.args.machine.items c.args.last c.args.counts.now c.args.room c.args.waiting world keep keeps position)
