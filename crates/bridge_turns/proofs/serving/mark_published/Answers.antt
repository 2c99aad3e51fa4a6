-- One more number is filled.
use Rattle.std.proofs.Common.{◌≡◌, arith}
use Rattle.bridge_turns.specs.Partitions.{known_in, all_known}
use Rattle.bridge_turns.proofs.Shards.{filled, all-filled}
use Rattle.bridge_turns.proofs.serving.mark_published.Goals as goal

pub loop-shard-preserved : goal.loop-shard-preserved
loop-shard-preserved c =
    filled (known_in c.args.bridge.now.logs) c.loop-shard.published c.loop-shard.shard c.from.result c.known_count.result c.from.ensures
    c.known_count.ensures (omega arith) c.loop-shard.invariant

pub returns : goal.returns
unfolding all_known
returns c =
    let at : c.loop-shard.shard ≡ 17 = omega arith in
    all-filled (known_in c.args.bridge.now.logs) c.loop-shard.published c.loop-shard.shard 17 at (omega arith) c.loop-shard.invariant
