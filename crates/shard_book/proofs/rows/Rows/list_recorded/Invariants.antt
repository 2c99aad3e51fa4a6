-- The list has the ATCs of the cards so far, after what it had.
use Rattle.std.proofs.Common.{◌≡◌, ◌≤◌, ◌+◌, ◌/◌, ◌%◌, ◌&&◌, ℕ, length, take, eqb, ltb}
use Rattle.counter_bits.specs.CounterSets.{has, times, one_if}
use Rattle.shard_book.proofs.rows.Rows.list_recorded.Given as goal

abbrev pub invariant-loop-index : goal.invariant-loop-index
invariant-loop-index l = record {
  kept : (length l.fn.list.items ≤ length l.list.items) × (take (length l.fn.list.items) l.list.items ≡ l.fn.list.items);
  listed : (number counter : ℕ) → times number counter l.list.items ≡ times number counter l.fn.list.items
      + one_if (eqb (number % l.self-inside.shards) l.self-inside.shard
      && (ltb (number / l.self-inside.shards) l.index && has l.self-inside.bits (number / l.self-inside.shards) counter));
}
