-- A row that is cleared stands for the history with no record.
use Rattle.std.proofs.Common.{refl, ap, ◌∙◌}
use Rattle.row_core.specs.CardRow.{CardRow}
use Rattle.row_core.proofs.RowLemmas.{stands-empty}
use Rattle.row_core.proofs.row.Row.clear.Goals as goal

pub returns : goal.returns
returns c = λ card method. stands-empty card _ (ap (λ (row : CardRow). row.method) c.self.view_is ∙ method) refl refl c.clear.ensures c.clear-2.ensures
