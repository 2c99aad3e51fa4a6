-- What is left in slots, and what was taken out, is all.
use Rattle.std.proofs.Common.{◌≡◌, ◌+◌, ◌≤◌, ◌++◌, map, reverse, vec_len, vec_capacity, None}
use Rattle.std.specs.Prelude.{All}
use Rattle.host_loading.specs.Slots.{HasEnded, fault_in, loaded_as}
use Rattle.host_loading.proofs.loading_together.take_shards.Given as goal

abbrev pub invariant-loop-slot : goal.invariant-loop-slot
invariant-loop-slot g l = record {
  ended : All (λ slot. HasEnded slot × (fault_in slot ≡ None)) l.slots.items;
  olds : map (λ slot. slot.old_store) l.slots.items ++ reverse l.olds.items ≡ map (λ slot. slot.old_store) l.initial.slots.items;
  shards : map (λ slot. slot.loaded) l.slots.items ++ map (λ shard. loaded_as shard) (reverse l.shards.items)
      ≡ map (λ slot. slot.loaded) l.initial.slots.items;
  room_olds : vec_len l.slots + vec_len l.olds ≤ vec_capacity l.olds;
  room : vec_len l.slots + vec_len l.shards ≤ vec_capacity l.shards;
}

abbrev pub decreases-loop-slot : goal.decreases-loop-slot
decreases-loop-slot g l = vec_len l.slots
