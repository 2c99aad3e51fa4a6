-- The values that are left, and those that were moved, are those from the beginning.
use Rattle.std.proofs.Common.{◌≡◌, ◌+◌, ◌≤◌, ◌++◌, map, reverse, Some, vec_len, vec_capacity}
use Rattle.turn_book.proofs.values.fill_slots.Given as goal

abbrev pub invariant-loop-value : goal.invariant-loop-value
invariant-loop-value g l = record {
  all : map Some l.values.items ++ reverse l.slots.items ≡ map Some l.initial.values.items;
  room : vec_len l.values + vec_len l.slots ≤ vec_capacity l.slots;
  same : vec_capacity l.values ≡ vec_capacity l.initial.values;
}

abbrev pub decreases-loop-value : goal.decreases-loop-value
decreases-loop-value g l = vec_len l.values
