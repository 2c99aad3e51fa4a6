-- The news of the first logs went into messages.
use Rattle.std.proofs.Common.{List}
use Rattle.std.specs.List.{flat_map, range_with_len}
use Rattle.bridge_lines.specs.Acts.{Act}
use Rattle.bridge_turns.specs.Publishing.{batch_of, all_added}
use Rattle.bridge_turns.specs.Saying.{IsBatch}
use Rattle.bridge_turns.specs.Partitions.{news_of}
use Rattle.bridge_turns.proofs.serving.publish_logs.Given as goal

abbrev pub invariant-loop-shard : goal.invariant-loop-shard
invariant-loop-shard g l = (start : g.row.S.Denot) (said : List Act) → g.S.Speaker.says start l.initial.speaker said
    → IsBatch l.publisher (g.S.Speaker.says start l.speaker)
    (all_added (batch_of l.initial.publisher said) (flat_map (news_of l.bridge.logs l.published) (range_with_len 0 l.shard)))
