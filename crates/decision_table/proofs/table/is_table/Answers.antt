-- No rows are no table.
use Rattle.std.proofs.Common.{not, ap, sym, ◌∙◌}
use Rattle.std.proofs.lemmas.Bool.{eqb-true}
use Rattle.decision_table.proofs.TableLemmas.{is_table-empty}
use Rattle.decision_table.proofs.table.is_table.Goals as goal

pub returns-else-not-is_empty : goal.returns-else-not-is_empty
returns-else-not-is_empty c =
    ap not c.if-not-is_empty.false ∙ sym (is_table-empty c.args.rows.now (eqb-true _ 0 (sym c.is_empty.ensures ∙ c.if-not-is_empty.false)))
