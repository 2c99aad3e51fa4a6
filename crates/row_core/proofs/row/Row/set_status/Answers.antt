-- The row has the status.
use Rattle.std.proofs.Common.{refl, ap}
use Rattle.row_core.specs.CardRow.{CardRow}
use Rattle.row_core.proofs.RowLemmas.{stands-status}
use Rattle.row_core.proofs.row.Row.set_status.Goals as goal

pub returns : goal.returns
returns c = λ card history stands.
    stands-status card c.args.self.now _ history c.args.status
    (ap (λ (row : CardRow). row.method) c.self.view_is)
    (ap (λ (row : CardRow). row.hi) c.self.view_is)
    (ap (λ (row : CardRow). row.slots) c.self.view_is)
    refl
    (ap (λ (row : CardRow). row.scripts) c.self.view_is)
    stands
