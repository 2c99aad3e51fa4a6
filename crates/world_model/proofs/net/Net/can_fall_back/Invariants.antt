-- The first shards may all be truncated.
use Rattle.std.proofs.Common.{◌≡◌, ◌<◌, ℕ, Some}
use Rattle.std.specs.List.{slice_get}
use Rattle.world_model.specs.FallBack.{CanTruncate}
use Rattle.world_model.specs.Stepping.{world_of}
use Rattle.world_net.specs.WorldState.{shard_at}
use Rattle.world_model.proofs.net.Net.can_fall_back.Given as goal

abbrev pub invariant-loop-number : goal.invariant-loop-number
invariant-loop-number l =
    (shard count : ℕ) → shard < l.number → slice_get l.keep shard ≡ Some count → CanTruncate l.self.sent.items (shard_at (world_of l.self) shard) count
