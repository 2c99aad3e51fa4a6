-- What a seat learns by each step on the words: a relation of the step, the seat before, the number found and the seat
-- after.
use Rattle.std.specs.Prelude.{◌≡◌, ℕ, ◌+◌, ◌<◌, ◌≤◌, bit_and, if◌then◌else◌, ◌==◌}
use Rattle.atomic_table.specs.Table.{Me, Step}
use Rattle.claim_words.specs.declared.layout.TheConstants.{COUNTERS}
use Rattle.claim_words.specs.declared.view.ClaimView.{ClaimView}
use Rattle.claim_words.specs.declared.view.Standing.TheVariants.{Kept, GivenBack}
use Rattle.claim_words.specs.declared.claim_words.Claim.{Claim}
use Rattle.claim_words.specs.declared.claim_words.Claim.TheVariants.{Won, Lost}
use Rattle.claim_words.specs.Layout.{word_of, top_word_of, mask_of, others_of, told_by}
use Rattle.claim_words.specs.ClaimViews.{IsNew, known_on, after_claim, after_top, settled}

-- the caller that finds the claim's bit clear has won
abbrev pub claim_by : ℕ → ℕ → Claim
claim_by found mask = if bit_and found mask == 0 then Won else Lost

module _ {S : Type 0} where
  abbrev pub claimed : Step S → Me S ClaimView → ℕ → Me S ClaimView → Type 0
  claimed step before found after = (after.1 ≡ before.1)
      × ((card counter : ℕ) → counter < COUNTERS → step.word ≡ word_of card counter → step.first ≡ mask_of counter
      → (after.0 ≡ after_claim (claim_by found step.first) card counter before.0)
      × (claim_by found step.first ≡ Won → IsNew card counter before.0))

  abbrev pub released : Step S → Me S ClaimView → ℕ → Me S ClaimView → Type 0
  released step before found after = (after.1 ≡ before.1)
      × ((card counter : ℕ) → counter < COUNTERS → step.word ≡ word_of card counter → step.first ≡ others_of counter
      → after.0 ≡ settled GivenBack card counter before.0)

  abbrev pub marked : Step S → Me S ClaimView → ℕ → Me S ClaimView → Type 0
  marked step before found after = (after.1 ≡ before.1)
      × ((card counter : ℕ) → step.word ≡ top_word_of card → step.first ≡ counter + 1
      → after.0 ≡ settled Kept card counter before.0)

  -- the number found is above each ATC of the card that the seat has kept or has read from a top
  abbrev pub topped : Step S → Me S ClaimView → ℕ → Me S ClaimView → Type 0
  topped step before found after = (after.1 ≡ before.1) × (found ≤ COUNTERS)
      × ((card : ℕ) → step.word ≡ top_word_of card → (after.0 ≡ after_top card (told_by found) before.0)
      × ((counter : ℕ) → counter < COUNTERS → 0 < known_on card counter before.0 → counter < found))
