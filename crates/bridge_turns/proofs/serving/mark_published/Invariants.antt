-- The first numbers are what is known of the first logs.
use Rattle.std.proofs.Common.{◌≡◌, take, map}
use Rattle.std.specs.List.{range_with_len}
use Rattle.bridge_turns.specs.Partitions.{known_in}
use Rattle.bridge_turns.proofs.serving.mark_published.Given as goal

abbrev pub invariant-loop-shard : goal.invariant-loop-shard
invariant-loop-shard l = take l.shard l.published ≡ map (known_in l.bridge.logs) (range_with_len 0 l.shard)
