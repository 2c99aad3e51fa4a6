-- Each way out of the loop gives the records of all lines, or none.
use Rattle.std.proofs.Common.{◌≡◌, ◌<◌, ◌-◌, ◌+◌, length, Some, None, rules, arith}
use Rattle.std.proofs.lemmas.Grind.{common_steps}
use Rattle.std.proofs.lemmas.List.Elements.{All-push}
use Rattle.bridge_rule.specs.Bridges.{indexed}
use Rattle.bridge_lines.specs.Parts.{cut, record_in}
use Rattle.bridge_lines.specs.Views.{IsPlaced}
use Rattle.bridge_lines.proofs.Feeding.{feeds-broken, feeds-end, feeds-none, feeds-one, feeds-over}
use Rattle.bridge_lines.proofs.message.records_in.Goals as goal

pub returns-then-is_empty-clause-records : goal.returns-then-is_empty-clause-records
returns-then-is_empty-clause-records c =
    let none : length c.loop-i.rest.now ≡ 0 = search rules in
    feeds-end c.loop-i.records.items _ 0 c.loop-i.rest.now _ c.loop-i.invariant.feeds none

pub returns-in_err-line-clause-records : goal.returns-in_err-line-clause-records
returns-in_err-line-clause-records c =
    let some : 0 < length c.loop-i.rest.now = search rules in
    let none : cut 10 c.loop-i.rest.now ≡ None = search rules in
    rw c.from_residual.ensures
    (feeds-broken c.loop-i.records.items _ (100 - (c.loop-i.i + 1)) c.loop-i.rest.now _ c.loop-i.invariant.feeds (omega arith) some none)

pub returns-in_err-one-clause-records : goal.returns-in_err-one-clause-records
returns-in_err-one-clause-records c =
    let some : 0 < length c.loop-i.rest.now = search rules in
    let next : cut 10 c.loop-i.rest.now ≡ Some (c.in_ok-line.line.now, c.in_ok-line.more.now) = search rules in
    let none : record_in c.in_ok-line.line.now ≡ None = search rules in
    rw c.from_residual-in_err-one.ensures
    (feeds-none c.loop-i.records.items _ (100 - (c.loop-i.i + 1)) c.loop-i.rest.now _ c.loop-i.invariant.feeds
    c.in_ok-line.line.now c.in_ok-line.more.now (omega arith) some next none)

pub loop-i-preserved : goal.loop-i-preserved
loop-i-preserved c =
    let some : 0 < length c.loop-i.rest.now = search rules in
    let next : cut 10 c.loop-i.rest.now ≡ Some (c.in_ok-line.line.now, c.in_ok-line.more.now) = search rules in
    let is : record_in c.in_ok-line.line.now ≡ Some (indexed c.in_ok-one.one) = search rules in
    let items = c.push_reserved.ensures.items in
    let placed : IsPlaced c.in_ok-one.one = search rules in
    record {
      feeds = rw items (feeds-one c.loop-i.records.items _ (100 - (c.loop-i.i + 1)) c.loop-i.rest.now _ c.loop-i.invariant.feeds
          c.in_ok-line.line.now c.in_ok-line.more.now c.in_ok-one.one (omega arith) some next is);
      placed = rw items (All-push IsPlaced c.loop-i.records.items c.in_ok-one.one c.loop-i.invariant.placed placed);
      count = let count = c.loop-i.invariant.count in grind (arith, common_steps, items, count);
      room = search rules;
    }

pub returns-then-is_empty-2-clause-records : goal.returns-then-is_empty-2-clause-records
returns-then-is_empty-2-clause-records c =
    let none : length c.loop-i.rest.now ≡ 0 = search rules in
    feeds-end c.loop-i.records.items _ 0 c.loop-i.rest.now _ c.loop-i.invariant.feeds none

pub returns-else-is_empty-2-clause-records : goal.returns-else-is_empty-2-clause-records
returns-else-is_empty-2-clause-records c =
    let some : 0 < length c.loop-i.rest.now = search rules in
    feeds-over c.loop-i.records.items _ 0 c.loop-i.rest.now _ c.loop-i.invariant.feeds (omega arith) some
