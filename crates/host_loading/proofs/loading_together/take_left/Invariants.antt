-- What is left in slots, and what was taken out, is all.
use Rattle.std.proofs.Common.{◌≡◌, ◌+◌, ◌≤◌, ◌++◌, map, reverse, vec_len, vec_capacity, Some}
use Rattle.std.specs.Prelude.{All}
use Rattle.host_loading.specs.Slots.{HasEnded, left_in}
use Rattle.host_loading.proofs.loading_together.take_left.Given as goal

abbrev pub invariant-loop-slot : goal.invariant-loop-slot
invariant-loop-slot g l = record {
  ended : All (λ slot. HasEnded slot) l.slots.items;
  olds : map (λ slot. slot.old_store) l.slots.items ++ reverse l.olds.items ≡ map (λ slot. slot.old_store) l.initial.slots.items;
  left : map (λ slot. left_in slot) l.slots.items ++ map (λ store. Some store) (reverse l.back.items)
      ≡ map (λ slot. left_in slot) l.initial.slots.items;
  room_olds : vec_len l.slots + vec_len l.olds ≤ vec_capacity l.olds;
  room : vec_len l.slots + vec_len l.back ≤ vec_capacity l.back;
}

abbrev pub decreases-loop-slot : goal.decreases-loop-slot
decreases-loop-slot g l = vec_len l.slots
