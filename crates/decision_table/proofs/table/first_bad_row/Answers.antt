-- Rows are a table exactly if no row is invalid.
use Rattle.std.proofs.Common.{◌≡◌, None, Some, arith}
use Rattle.std.proofs.lemmas.Grind.{common_steps}
use Rattle.decision_table.specs.Tables.{first_bad_row}
use Rattle.decision_table.proofs.TableLemmas.{is_table-found}
use Rattle.decision_table.proofs.table.first_bad_row.Goals as goal

pub returns-then-not-may_stand-clause-table : goal.returns-then-not-may_stand-clause-table
returns-then-not-may_stand-clause-table c =
    let found : Some c.loop-index.index ≡ first_bad_row c.args.rows.now = grind (arith, common_steps) in
    is_table-found c.args.rows.now _ found

pub returns-clause-table : goal.returns-clause-table
returns-clause-table c =
    let found : None ≡ first_bad_row c.args.rows.now = grind (arith, common_steps) in
    is_table-found c.args.rows.now _ found
