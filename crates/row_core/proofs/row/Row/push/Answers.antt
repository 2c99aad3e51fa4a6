-- The command is appended to the row's queue.
use Rattle.std.proofs.Common.{ap, ◌∙◌}
use Rattle.std.proofs.lemmas.Result.{IfOk-weaker}
use Rattle.row_core.specs.CardRow.{CardRow}
use Rattle.row_core.proofs.RowLemmas.{stands-command}
use Rattle.row_core.proofs.row.Row.push.Goals as goal

pub returns-clause-queued : goal.returns-clause-queued
returns-clause-queued c =
    IfOk-weaker c.push.result _ _
    (λ number queued card history stands.
    stands-command card c.args.self.now _ history c.args.command
    (ap (λ (row : CardRow). row.method) c.self.view_is)
    (ap (λ (row : CardRow). row.hi) c.self.view_is)
    (ap (λ (row : CardRow). row.slots) c.self.view_is)
    (ap (λ (row : CardRow). row.status) c.self.view_is)
    (λ scripts kept few. queued scripts (ap (λ (row : CardRow). row.scripts) c.self.view_is ∙ kept) few)
    stands)
    c.push.ensures.queued
