-- The fault is at the first malformed element, or else at a last row that doesn't match all; else the rows are a table.
use Rattle.std.proofs.Common.{◌≤◌, length, sym}
use Rattle.std.proofs.lemmas.Result.{err_from_is_err_and}
use Rattle.serde_json.specs.View.{view}
use Rattle.config_read.proofs.TableLemmas.{table_in-silent, table_in-last, table_in-whole}
use Rattle.config_read.proofs.parts.read_table.Goals as goal

pub returns-in_err-all_said : goal.returns-in_err-all_said
returns-in_err-all_said c =
    let p = err_from_is_err_and c.from_residual-in_err-all_said.result c.from_residual-in_err-all_said.ensures.1 in
    let silent = rw (c.len.ensures.value, ← p.2) at c.in_err-all_said.ensures in
    rw p.1 (rw silent.1 (sym (table_in-silent (view c.args.value.now) c.in_ok-elements.elements.now c.front_rows-rows.result.items
    c.in_ok-elements.ensures.elements c.front_rows-rows.ensures silent.0)))

pub returns-in-Some : goal.returns-in-Some
returns-in-Some c =
    let all : length c.in_ok-elements.elements.now ≤ length c.front_rows-rows.result.items = rw c.len.ensures.value at c.in_ok-all_said.ensures in
    sym (table_in-whole (view c.args.value.now) c.in_ok-elements.elements.now c.front_rows-rows.result.items
    c.in_ok-elements.ensures.elements c.front_rows-rows.ensures c.in-Some.table all c.in-Some.ensures)

pub returns-in-None : goal.returns-in-None
returns-in-None c =
    let all : length c.in_ok-elements.elements.now ≤ length c.front_rows-rows.result.items = rw c.len.ensures.value at c.in_ok-all_said.ensures in
    sym (table_in-last (view c.args.value.now) c.in_ok-elements.elements.now c.front_rows-rows.result.items
    c.in_ok-elements.ensures.elements c.front_rows-rows.ensures all c.in-None.ensures)
