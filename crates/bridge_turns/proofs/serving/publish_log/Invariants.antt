-- The first records from the index on went into messages.
use Rattle.std.proofs.Common.{List, ◌≡◌, ◌-◌, ◌≤◌}
use Rattle.std.specs.List.{flat_map, range_with_len}
use Rattle.bridge_rule.specs.Bridges.{log_at}
use Rattle.bridge_lines.specs.Acts.{Act}
use Rattle.bridge_turns.specs.Publishing.{batch_of, all_added}
use Rattle.bridge_turns.specs.Saying.{IsBatch}
use Rattle.bridge_turns.specs.Partitions.{found}
use Rattle.bridge_turns.proofs.serving.publish_log.Given as goal

abbrev pub invariant-loop-index : goal.invariant-loop-index
invariant-loop-index g l = record {
  added : (start : g.row.S.Denot) (said : List Act) → g.S.Speaker.says start l.initial.speaker said
      → IsBatch l.publisher (g.S.Speaker.says start l.speaker)
      (all_added (batch_of l.initial.publisher said) (flat_map (found (log_at l.bridge.logs l.shard) l.shard) (range_with_len l.from (l.index - l.from))));
  none : l.index-end ≤ l.from → l.index ≡ l.from;
}
