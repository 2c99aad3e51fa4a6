-- An empty row stands for the history with no record.
use Rattle.std.proofs.Common.{refl}
use Rattle.row_core.proofs.RowLemmas.{stands-empty}
use Rattle.row_core.proofs.row.Row.new.Goals as goal

pub returns : goal.returns
returns c = λ card method. stands-empty card _ method refl refl c.in_ok-kept.ensures c.in_ok-scripts.ensures
