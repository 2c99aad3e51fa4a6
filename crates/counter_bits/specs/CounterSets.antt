-- Which ATCs the sets have, and how often one occurs in a list: EMV 4.3 Book 3, Annex A, tag 9F36.
use Rattle.std.specs.Prelude.{ℕ, ◌+◌, ◌*◌, ◌/◌, ◌%◌, List, slice_index, Bool, ◌&&◌, ◌==◌, nat_lt, cond, count_by}
use Rattle.std.specs.Int.{bit_at}
use Rattle.counter_bits.specs.declared.counter_bits.TheConstants.{COUNTERS, WORD_COUNTERS}

-- a set for each of so many cards, in words of 64 bits; the words after these are 0
pub record CounterSets : Type 0 where
  pub cards : ℕ
  pub words : List ℕ

-- the index of the word with the bit of this ATC of this card, of so many cards: one word of each card, then the next
-- of each
abbrev pub word_of : ℕ → ℕ → ℕ → ℕ
word_of cards index counter = counter / WORD_COUNTERS * cards + index

-- whether the set of this card has the ATC
unfoldable pub has : CounterSets → ℕ → ℕ → Bool
has sets index counter =
    nat_lt index sets.cards
    && (nat_lt counter COUNTERS
    && bit_at (slice_index sets.words (word_of sets.cards index counter)) (counter % WORD_COUNTERS) == 1)

-- how often the ATC of the card with this number occurs in a list
unfoldable pub times : ℕ → ℕ → List (ℕ × ℕ) → ℕ
times number counter pairs = count_by (λ pair. pair.0 == number && pair.1 == counter) pairs

-- 1 if it is true, and else 0
abbrev pub one_if : Bool → ℕ
one_if is = cond is 1 0
