-- What is said of the first logs was said.
use Rattle.std.proofs.Common.{List, ◌++◌}
use Rattle.std.specs.List.{flat_map, range_with_len, slice_index}
use Rattle.bridge_lines.specs.Acts.{Act}
use Rattle.bridge_turns.specs.Partitions.{count_acts}
use Rattle.bridge_turns.proofs.reading.say_counts.Given as goal

abbrev pub invariant-loop-shard : goal.invariant-loop-shard
invariant-loop-shard g l = (start : g.row.S.Denot) (said : List Act) → g.S.Speaker.says start l.initial.speaker said
    → g.S.Speaker.says start l.speaker (said
    ++ flat_map (λ shard. count_acts (slice_index l.counts shard) l.bridge.logs shard) (range_with_len 0 l.shard))
