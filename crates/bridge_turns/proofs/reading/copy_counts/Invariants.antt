-- The first numbers are how many count of the first logs.
use Rattle.std.proofs.Common.{◌≡◌, take, map}
use Rattle.std.specs.List.{range_with_len}
use Rattle.bridge_turns.specs.Partitions.{count_in}
use Rattle.bridge_turns.proofs.reading.copy_counts.Given as goal

abbrev pub invariant-loop-shard : goal.invariant-loop-shard
invariant-loop-shard l = take l.shard l.counts ≡ map (count_in l.bridge.logs) (range_with_len 0 l.shard)
