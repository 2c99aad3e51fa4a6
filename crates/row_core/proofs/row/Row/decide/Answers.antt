-- The reply is that of the row's card after each history, whole, and comes with the launch of the row.
use Rattle.std.proofs.Common.{◌≡◌, rules}
use Rattle.card_history.specs.Scripts.{Scripts}
use Rattle.row_core.specs.CardRow.{KeepsScripts}
use Rattle.row_core.specs.Replying.{decided_reply}
use Rattle.row_core.proofs.PlanLemmas.{decided-after}
use Rattle.row_core.proofs.row.Row.decide.Goals as goal

pub returns-clause-reply : goal.returns-clause-reply
returns-clause-reply c =
    let row = c.args.self.now in
    let made : (scripts : Scripts) → KeepsScripts row scripts
    → record { arc = c.decide-row.result.now.arc; approve = c.decide-row.result.now.approve; bytes = c.write_reply.new.bytes }
    ≡ decided_reply row.method c.args.keys.now c.args.table.now scripts row.status c.args.request.now = search rules in
    decided-after row c.args.keys.now c.args.table.now c.args.request.now _ made

pub returns-clause-step : goal.returns-clause-step
returns-clause-step c =
    record { some = c.write_reply.ensures.some; code = c.write_reply.ensures.code; launch_is = c.launch-launch.ensures }
