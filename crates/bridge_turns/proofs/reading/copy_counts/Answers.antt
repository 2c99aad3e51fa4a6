-- One more number is filled.
use Rattle.std.proofs.Common.{◌≡◌, arith}
use Rattle.bridge_turns.specs.Partitions.{count_in, all_counts}
use Rattle.bridge_turns.proofs.Shards.{filled, all-filled}
use Rattle.bridge_turns.proofs.reading.copy_counts.Goals as goal

pub loop-shard-preserved : goal.loop-shard-preserved
loop-shard-preserved c =
    filled (count_in c.args.bridge.now.logs) c.loop-shard.counts c.loop-shard.shard c.from.result c.count.result c.from.ensures c.count.ensures
    (omega arith) c.loop-shard.invariant

pub returns : goal.returns
unfolding all_counts
returns c =
    let at : c.loop-shard.shard ≡ 17 = omega arith in
    all-filled (count_in c.args.bridge.now.logs) c.loop-shard.counts c.loop-shard.shard 17 at (omega arith) c.loop-shard.invariant
