-- The decision of a request with an unused ATC is one turn's answer.
use Rattle.row_core.proofs.PlanLemmas.{plans-fresh}
use Rattle.row_core.proofs.row.Row.plan.Goals as goal

pub returns-clause-plan : goal.returns-clause-plan
returns-clause-plan c =
    plans-fresh c.args.self.now c.args.keys.now c.args.table.now c.args.request.now c.decide-launch.new.reply c.decide-launch.result
    (λ card history stands. c.in-None.ensures card history stands)
    c.decide-launch.ensures.reply
