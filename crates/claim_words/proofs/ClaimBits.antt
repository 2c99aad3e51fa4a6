-- The bits of claims in the words, and the tops beside them, when one word changes.
use Rattle.std.proofs.Common.{◌≡◌, ◌≢◌, ℕ, ◌-◌, ◌*◌, ◌%◌, ◌^◌, ◌<◌, List, length, set, get_or, bit_and, bit_or, w64, inl, inr, sym, ap, ◌∙◌, subst}
use Rattle.std.proofs.Common.{arith, get_or-set_same, get_or-set_other}
use Rattle.std.proofs.Math.Nat.{mod-eq_of_lt}
use Rattle.std.proofs.Math.Pow.{pow-lt}
use Rattle.std.proofs.lemmas.Bool.{cases_eq, cases_lt, cases_order}
use Rattle.std.proofs.lemmas.List.{set_past}
use Rattle.std.proofs.lemmas.Nat.{pow_pos}
use Rattle.std.proofs.lemmas.Nat.Bits.{bit_at_set_same, bit_at_set_other, bit_at_clear_same, bit_at_clear_other, and_pow, bit_at-lt}
use Rattle.std.specs.Int.{bit_at}
use Rattle.claim_words.specs.declared.layout.TheConstants.{COUNTERS}
use Rattle.claim_words.specs.Layout.{word_of, top_word_of, mask_of, others_of, bit_of, top_of}
use Rattle.claim_words.proofs.WordPlaces

small_mask : (counter : ℕ) → mask_of counter < 2 ^ 64
small_mask counter = pow-lt {i = counter % 64} {j = 64} (omega arith)

pub mask_is : (counter : ℕ) → 1 * 2 ^ (counter % 64) % 2 ^ 64 ≡ mask_of counter
mask_is counter =
    let one : 1 * 2 ^ (counter % 64) ≡ 2 ^ (counter % 64) = omega arith in
    mod-eq_of_lt (subst (λ (n : ℕ). n < 2 ^ 64) (sym one) (small_mask counter)) ∙ one

pow_same : (k l : ℕ) → 2 ^ k ≡ 2 ^ l → k ≡ l
pow_same k l e =
    elim (cases_order k l) [
      | inl same ↦ same
      | inr apart ↦ elim apart [
        | inl less ↦ let lt : 2 ^ k < 2 ^ l = pow-lt less in absurd (omega arith)
        | inr more ↦ let lt : 2 ^ l < 2 ^ k = pow-lt more in absurd (omega arith)
      ]
    ]

-- the word and the bit tell the card and the ATC
pub pair_by_mask : (card counter other_card other : ℕ) → counter < COUNTERS → other < COUNTERS → word_of card counter ≡ word_of other_card other
    → mask_of counter ≡ mask_of other → (other_card ≡ card) × (other ≡ counter)
pair_by_mask card counter other_card other small also words masks =
    WordPlaces.same_claim card counter other_card other small also words (pow_same (counter % 64) (other % 64) masks)

-- so do the word and its other bits
pub pair_by_others : (card counter other_card other : ℕ) → counter < COUNTERS → other < COUNTERS → word_of card counter ≡ word_of other_card other
    → others_of counter ≡ others_of other → (other_card ≡ card) × (other ≡ counter)
pair_by_others card counter other_card other small also words masks =
    let a = small_mask counter in
    let b = small_mask other in
    pair_by_mask card counter other_card other small also words (omega arith)

pub bit-or : (n counter : ℕ) → bit_at (bit_or n (mask_of counter)) (counter % 64) ≡ 1
bit-or n counter = subst (λ (mask : ℕ). bit_at (bit_or n mask) (counter % 64) ≡ 1) (mask_is counter) (bit_at_set_same w64 n (counter % 64) (omega arith))

pub bit-or_other : (n counter i : ℕ) → i ≢ counter % 64 → bit_at (bit_or n (mask_of counter)) i ≡ bit_at n i
bit-or_other n counter i apart =
    subst (λ (mask : ℕ). bit_at (bit_or n mask) i ≡ bit_at n i) (mask_is counter) (bit_at_set_other w64 n (counter % 64) (omega arith) i apart)

pub bit-and : (n counter : ℕ) → bit_at (bit_and n (others_of counter)) (counter % 64) ≡ 0
bit-and n counter =
    subst (λ (mask : ℕ). bit_at (bit_and n (2 ^ 64 - 1 - mask)) (counter % 64) ≡ 0) (mask_is counter) (bit_at_clear_same w64 n (counter % 64) (omega arith))

pub bit-and_other : (n counter i : ℕ) → i < 64 → i ≢ counter % 64 → bit_at (bit_and n (others_of counter)) i ≡ bit_at n i
bit-and_other n counter i small apart =
    subst (λ (mask : ℕ). bit_at (bit_and n (2 ^ 64 - 1 - mask)) i ≡ bit_at n i) (mask_is counter)
    (bit_at_clear_other w64 n (counter % 64) (omega arith) i small apart)

-- the test of the bit
pub bit_clear : (n counter : ℕ) → bit_and n (mask_of counter) ≡ 0 → bit_at n (counter % 64) ≡ 0
bit_clear n counter e =
    elim (cases_eq (bit_at n (counter % 64)) 0) [
      | inl clear ↦ clear
      | inr one ↦
          let is : bit_at n (counter % 64) ≡ 1 = let lt = bit_at-lt n (counter % 64) in omega arith in
          let positive : 0 < 2 ^ (counter % 64) = pow_pos (counter % 64) in
          let product : bit_at n (counter % 64) * 2 ^ (counter % 64) ≡ 1 * 2 ^ (counter % 64) = ap (λ (b : ℕ). b * 2 ^ (counter % 64)) is in
          absurd (omega (arith, and_pow n (counter % 64)))
    ]

pub bit_found : (n counter : ℕ) → bit_and n (mask_of counter) ≢ 0 → bit_at n (counter % 64) ≡ 1
bit_found n counter found =
    elim (cases_eq (bit_at n (counter % 64)) 0) [
      | inl clear ↦
          let product : bit_at n (counter % 64) * 2 ^ (counter % 64) ≡ 0 * 2 ^ (counter % 64) = ap (λ (b : ℕ). b * 2 ^ (counter % 64)) clear in
          absurd (found (and_pow n (counter % 64) ∙ product ∙ omega arith))
      | inr one ↦ let lt = bit_at-lt n (counter % 64) in omega arith
    ]

module _ (words : List ℕ) (card counter new : ℕ) (small : counter < COUNTERS) where
  pub bit-set : word_of card counter < length words → bit_of (set words (word_of card counter) new) card counter ≡ bit_at new (counter % 64)
  bit-set within = ap (λ (n : ℕ). bit_at n (counter % 64)) (get_or-set_same words (word_of card counter) new 0 within)

  pub bit-set_other : (other_card other : ℕ) → other < COUNTERS → ((other_card ≡ card) × (other ≡ counter) → ⊥)
      → ((i : ℕ) → i < 64 → i ≢ counter % 64 → bit_at new i ≡ bit_at (get_or words (word_of card counter) 0) i)
      → bit_of (set words (word_of card counter) new) other_card other ≡ bit_of words other_card other
  bit-set_other other_card other also apart same =
      elim (cases_eq (word_of other_card other) (word_of card counter)) [
        | inl word ↦
            elim (cases_lt (word_of card counter) (length words)) [
              | inl within ↦
                  ap (λ (i : ℕ). bit_at (get_or (set words (word_of card counter) new) i 0) (other % 64)) word
                  ∙ ap (λ (n : ℕ). bit_at n (other % 64)) (get_or-set_same words (word_of card counter) new 0 within)
                  ∙ same (other % 64) (omega arith) (λ low. apart (WordPlaces.same_claim card counter other_card other small also (sym word) (sym low)))
                  ∙ ap (λ (i : ℕ). bit_at (get_or words i 0) (other % 64)) (sym word)
              | inr past ↦ ap (λ (ws : List ℕ). bit_of ws other_card other) (set_past words (word_of card counter) new past)
            ]
        | inr word ↦ ap (λ (n : ℕ). bit_at n (other % 64)) (get_or-set_other words (word_of card counter) (word_of other_card other) new 0 word)
      ]

  pub top-set_bit : (other_card : ℕ) → top_of (set words (word_of card counter) new) other_card ≡ top_of words other_card
  top-set_bit other_card = get_or-set_other words (word_of card counter) (top_word_of other_card) new 0
      (λ e. WordPlaces.claim-top card counter other_card small (sym e))

module _ (words : List ℕ) (card new : ℕ) where
  pub top-set : top_word_of card < length words → top_of (set words (top_word_of card) new) card ≡ new
  top-set within = get_or-set_same words (top_word_of card) new 0 within

  pub top-set_other : (other_card : ℕ) → other_card ≢ card → top_of (set words (top_word_of card) new) other_card ≡ top_of words other_card
  top-set_other other_card apart = get_or-set_other words (top_word_of card) (top_word_of other_card) new 0
      (λ e. apart (WordPlaces.same_top card other_card (sym e)))

  pub bit-set_top : (other_card other : ℕ) → other < COUNTERS → bit_of (set words (top_word_of card) new) other_card other ≡ bit_of words other_card other
  bit-set_top other_card other small =
      ap (λ (n : ℕ). bit_at n (other % 64)) (get_or-set_other words (top_word_of card) (word_of other_card other) new 0
      (λ e. WordPlaces.claim-top other_card other card small e))
