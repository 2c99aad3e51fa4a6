-- The ATCs of the word so far are appended to the list.
use Rattle.std.proofs.Common.{◌≡◌, ◌≤◌, ◌+◌, ◌/◌, ℕ, length, take, eqb, ltb, ◌&&◌}
use Rattle.counter_bits.specs.declared.counter_bits.TheConstants.{WORD_COUNTERS}
use Rattle.counter_bits.specs.CounterSets.{has, times, one_if}
use Rattle.counter_bits.proofs.counter_bits.CounterBits.list_word.Given as goal

abbrev pub invariant-loop-counter : goal.invariant-loop-counter
invariant-loop-counter l = record {
  kept : (length l.fn.list.items ≤ length l.list.items) × (take (length l.fn.list.items) l.list.items ≡ l.fn.list.items);
  listed : (other counter : ℕ) → times other counter l.list.items ≡ times other counter l.fn.list.items
      + one_if (eqb l.number other && (ltb counter l.counter && (eqb l.block (counter / WORD_COUNTERS) && has l.self l.index counter)));
}
