-- The stores so far are empty, and have the room of their shards' steps.
use Rattle.std.proofs.Common.{◌≡◌, ◌≤◌, ℕ, length, vec_capacity, Some}
use Rattle.std.specs.List.{slice_get}
use Rattle.store_edge.specs.RoomStores.{RoomState}
use Rattle.world_play.specs.Room.{IsOpened}
use Rattle.world_play.proofs.opening.stores.Given as goal

abbrev pub invariant-loop-shard : goal.invariant-loop-shard
invariant-loop-shard l = record {
  opened : (shard : ℕ) (store : RoomState) → slice_get l.stores.items shard ≡ Some store → IsOpened l.cards l.steps shard store;
  count : length l.stores.items ≡ l.shard;
  room : 4 ≤ vec_capacity l.stores;
}
