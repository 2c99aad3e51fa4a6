-- The lines of the records so far are appended.
use Rattle.std.proofs.Common.{◌≡◌, ◌+◌, ◌*◌, ◌≤◌, ◌++◌, map, take, vec_len, vec_capacity}
use Rattle.bridge_rule.specs.Bridges.{indexed}
use Rattle.bridge_lines.specs.Texts.{feed_lines}
use Rattle.bridge_lines.proofs.writing.put_feed_lines.Given as goal

abbrev pub invariant-loop-i : goal.invariant-loop-i
invariant-loop-i l = record {
  text : l.out.items ≡ l.fn.out.items ++ feed_lines (map indexed (take l.i l.records));
  len : vec_len l.out ≤ vec_len l.fn.out + l.i * 1_067;
  room : vec_capacity l.fn.out ≤ vec_capacity l.out;
}
