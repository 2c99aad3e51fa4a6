-- The shards so far are without records.
use Rattle.std.proofs.Common.{◌≡◌, replicate}
use Rattle.world_net.specs.WorldState.{no_shard}
use Rattle.world_model.proofs.net.no_shards.Given as goal

abbrev pub invariant-loop : goal.invariant-loop
invariant-loop l = l.shards.items ≡ replicate l.counter no_shard
