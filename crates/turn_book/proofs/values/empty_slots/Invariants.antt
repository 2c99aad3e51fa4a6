-- The slots that are left, and the values that were moved, are those from the beginning.
use Rattle.std.proofs.Common.{◌≡◌, ◌+◌, ◌≤◌, ◌++◌, All, map, reverse, Some, IsSome, vec_len, vec_capacity}
use Rattle.turn_book.proofs.values.empty_slots.Given as goal

abbrev pub invariant-loop-slot : goal.invariant-loop-slot
invariant-loop-slot g l = record {
  all : l.slots.items ++ map Some (reverse l.values.items) ≡ l.initial.slots.items;
  full : All IsSome l.slots.items;
  room : vec_len l.values + vec_len l.slots ≤ vec_capacity l.values;
}

abbrev pub decreases-loop-slot : goal.decreases-loop-slot
decreases-loop-slot g l = vec_len l.slots
