-- The first invalid row among the rows from here on is the first of all.
use Rattle.std.proofs.Common.{◌≡◌, drop}
use Rattle.decision_table.specs.Tables.{first_bad_from}
use Rattle.decision_table.proofs.table.first_bad_row.Given as goal

abbrev pub invariant-loop-index : goal.invariant-loop-index
invariant-loop-index l = first_bad_from l.index (drop l.index l.rows) ≡ first_bad_from 0 l.rows
