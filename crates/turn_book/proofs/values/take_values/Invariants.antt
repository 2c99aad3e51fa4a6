-- The values so far were taken out of their slots, and the slots after them are full.
use Rattle.std.proofs.Common.{◌≡◌, ℕ, ◌<◌, ◌≤◌, true, false, map, take, Some, get_or, vec_len, vec_capacity}
use Rattle.std.specs.Mem.Slots.{slots_items, slots_filled, slots_len}
use Rattle.turn_book.proofs.values.take_values.Given as goal

abbrev pub invariant-loop-shard : goal.invariant-loop-shard
invariant-loop-shard g l = record {
  values : map Some l.values.items ≡ take l.shard (slots_items l.initial.closed.slots);
  count : vec_len l.values ≡ l.shard;
  room : slots_len l.closed.slots ≤ vec_capacity l.values;
  items : slots_items l.closed.slots ≡ slots_items l.initial.closed.slots;
  long : slots_len l.closed.slots ≡ slots_len l.initial.closed.slots;
  full : (k : ℕ) → l.shard ≤ k → k < slots_len l.closed.slots → get_or (slots_filled l.closed.slots) k false ≡ true;
  taken : (k : ℕ) → k < l.shard → get_or (slots_filled l.closed.slots) k false ≡ false;
}
