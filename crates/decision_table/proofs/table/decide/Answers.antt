-- A table has a row for every amount, so the search finds one, and it is the first that matches.
use Rattle.std.proofs.Common.{◌≡◌, ◌<◌, List, Some, IsTrue, ◌∙◌, subst, arith}
use Rattle.std.proofs.lemmas.Grind.{common_steps}
use Rattle.std.specs.List.{find}
use Rattle.issuer_base.specs.ChipData.{amount_value}
use Rattle.decision_table.specs.declared.row.TableRow.{TableRow}
use Rattle.decision_table.specs.Fitting.{fits}
use Rattle.decision_table.specs.Tables.{is_table}
use Rattle.decision_table.proofs.DecisionLemmas.{first-fits, found-table, table-decision}
use Rattle.decision_table.proofs.table.decide.Goals.{After-unwrap}
use Rattle.decision_table.proofs.table.decide.Goals as goal

pub unwrap-requires : goal.unwrap-requires
unwrap-requires c =
    let below : amount_value c.args.request.now < 1000000000000 = omega (arith, c.amount_value.ensures.exact, c.amount_value.ensures.below) in
    let table : IsTrue (is_table c.as_slice.result.now) = rw c.as_slice.ensures.value c.table.invariant in
    found-table _ c.find_row.result _ _ _ below table c.find_row.ensures

found : (c : After-unwrap) → find (fits c.args.status c.args.request.now) c.args.table.now ≡ Some c.unwrap.result.now
found c = grind (arith, common_steps)

pub returns-clause-exact : goal.returns-clause-exact
returns-clause-exact c =
    let table : IsTrue (is_table c.args.table.now) = subst (λ (rows : List TableRow). IsTrue (is_table rows)) c.table.view_is c.table.invariant in
    table-decision c.args.table.now _ _ table ∙ found (goal.at.returns-clause-exact c).After-unwrap

pub returns-clause-first : goal.returns-clause-first
returns-clause-first c = first-fits c.args.table.now _ _ _ (found (goal.at.returns-clause-first c).After-unwrap)
