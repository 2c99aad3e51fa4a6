-- The records so far, and those of the lines that are left, are those of all lines.
use Rattle.std.proofs.Common.{◌≡◌, ◌-◌, length, vec_capacity}
use Rattle.bridge_rule.specs.Bridges.{ArePlaced}
use Rattle.bridge_lines.specs.Reading.{records_in}
use Rattle.bridge_lines.proofs.Feeding.{Feeds}
use Rattle.bridge_lines.proofs.message.records_in.Given as goal

abbrev pub invariant-loop-i : goal.invariant-loop-i
invariant-loop-i l = record {
  feeds : Feeds l.records.items (100 - l.i) l.rest (records_in 100 l.lines);
  placed : ArePlaced l.records.items;
  count : length l.records.items ≡ l.i;
  room : vec_capacity l.records ≡ vec_capacity l.fn.records;
}
