-- An element without amounts or without a decision is no row; one with all its parts is parsed as their row.
use Rattle.std.proofs.Common.{◌∙◌, sym}
use Rattle.serde_json.specs.View.{view}
use Rattle.decision_table.specs.declared.row.TableRow.{TableRow}
use Rattle.config_read.proofs.RowPartsLemmas.{row_in-no_amounts, row_in-no_decision, row_in-parts}
use Rattle.config_read.proofs.elements.read_row.Goals as goal

pub returns-in_err-least : goal.returns-in_err-least
returns-in_err-least c = c.from_residual-in_err-least.ensures ∙ sym (row_in-no_amounts (view c.args.element.now) c.in_err-least.ensures)

pub returns-in_err-arc : goal.returns-in_err-arc
returns-in_err-arc c = c.from_residual-in_err-arc.ensures ∙ sym (row_in-no_decision (view c.args.element.now) c.in_err-arc.ensures)

pub returns : goal.returns
returns c =
    let row : TableRow = record {
      tvr_mask = c.in_ok-tvr_mask.tvr_mask;
      tvr_value = c.in_ok-tvr_mask.tvr_value;
      cvr_mask = c.in_ok-cvr_mask.cvr_mask;
      cvr_value = c.in_ok-cvr_mask.cvr_value;
      least = c.in_ok-least.least;
      most = c.in_ok-least.most;
      status = c.in_ok-status.status;
      arc = c.in_ok-arc.arc;
      approve = c.in_ok-arc.approve;
      csu = c.in_ok-arc.csu;
    } in
    let parts = row_in-parts (view c.args.element.now) row c.in_ok-tvr_mask.ensures c.in_ok-cvr_mask.ensures c.in_ok-least.ensures
    c.in_ok-status.ensures c.in_ok-arc.ensures in
    c.told.ensures ∙ sym parts
