-- The initial words of the table.
use Rattle.std.specs.Prelude.{◌≡◌, ℕ, ◌+◌, ◌<◌, ◌≤◌, List, length}
use Rattle.claim_words.specs.declared.layout.TheConstants.{COUNTERS}
use Rattle.claim_words.specs.Layout.{words_for, bit_of, top_of}
use Rattle.claim_words.specs.ClaimViews.{times}

-- the words have the bits of exactly these pairs, and each card's top is 1 above the greatest of its ATCs, or 0
pub record AreOpening (cards : ℕ) (pairs : List (ℕ × ℕ)) (words : List ℕ) : Type 0 where
  pub wide : length words ≡ words_for cards
  pub bits : (card counter : ℕ) → counter < COUNTERS → bit_of words card counter ≡ times card counter pairs
  pub above : (card counter : ℕ) → 0 < times card counter pairs → counter < top_of words card
  pub greatest : (card counter : ℕ) → top_of words card ≡ counter + 1 → 0 < times card counter pairs
  pub small : (card : ℕ) → top_of words card ≤ COUNTERS
