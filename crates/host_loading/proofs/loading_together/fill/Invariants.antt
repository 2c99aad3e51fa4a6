-- The stores that are left, and those in slots, are all.
use Rattle.std.proofs.Common.{◌≡◌, ◌+◌, ◌≤◌, ◌++◌, map, reverse, vec_len, vec_capacity, Some}
use Rattle.std.specs.Prelude.{All}
use Rattle.host_loading.specs.Slots.{IsWaiting}
use Rattle.host_loading.proofs.loading_together.fill.Given as goal

abbrev pub invariant-loop-store : goal.invariant-loop-store
invariant-loop-store g l = record {
  count : vec_len l.olds ≡ vec_len l.stores;
  all : vec_len l.slots + vec_len l.stores ≡ vec_len l.initial.stores;
  olds : l.olds.items ++ map (λ slot. slot.old_store) (reverse l.slots.items) ≡ l.initial.olds.items;
  stores : map (λ store. Some store) l.stores.items ++ map (λ slot. slot.store) (reverse l.slots.items)
      ≡ map (λ store. Some store) l.initial.stores.items;
  waiting : All (λ slot. IsWaiting slot) l.slots.items;
  room : vec_len l.slots + vec_len l.stores ≤ vec_capacity l.slots;
  room_olds : vec_len l.slots + vec_len l.olds ≤ vec_capacity l.olds;
}

abbrev pub decreases-loop-store : goal.decreases-loop-store
decreases-loop-store g l = vec_len l.stores
