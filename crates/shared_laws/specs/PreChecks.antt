-- What checking a line before its turn makes of a pass's claims.
use Rattle.std.specs.Prelude.{◌≡◌, ℕ, ◌<◌, Option, Some, Result, Ok, Err, IsOk}
use Rattle.issuer_base.specs.declared.answer.Refusal.{Refusal}
use Rattle.issuer_base.specs.declared.answer.Refusal.TheVariants.{Below}
use Rattle.card_history.specs.Records.{card_of, IsBelow}
use Rattle.card_history.specs.declared.decision.Asked.{Asked}
use Rattle.card_history.specs.declared.decision.Asked.TheVariants.{Decide as AsksDecision}
use Rattle.issuer_setup.specs.CardList.{number_of}
use Rattle.issuer_setup.specs.IssuerSetup.{Setup}
use Rattle.line_checks.specs.AtHand.{order_asked, IsRequestAtHand, IsOrderAtHand}
use Rattle.line_checks.specs.Reading.{checked}
use Rattle.claim_words.specs.declared.layout.TheConstants.{COUNTERS}
use Rattle.claim_words.specs.declared.view.ClaimView.{ClaimView}
use Rattle.claim_words.specs.declared.claim_words.Claim.TheVariants.{Won}
use Rattle.claim_words.specs.ClaimViews.{IsNew, after_claim, after_top}
use Rattle.claim_words.specs.Seats.{IsTopFor}
use Rattle.shared_laws.specs.declared.checked.Checked.{Checked}
use Rattle.shared_laws.specs.declared.checked.Checked.TheVariants.{Decide, Order}

-- what the line asks
abbrev pub asked_of : Checked → Asked
asked_of (Decide found claim) = AsksDecision found.request
asked_of (Order found) = order_asked found

-- what was checked passed every check of this issuer, and comes with the number of its card, and a request with its
-- keys
abbrev pub HasPassed : Setup → Checked → Type 0
HasPassed issuer (Decide found claim) = IsRequestAtHand issuer found
    × (checked issuer found.request ≡ Ok (AsksDecision found.request))
HasPassed issuer (Order found) = IsOrderAtHand issuer found

-- what was checked is what the line asks, and passed every check
pub record IsAskedBy (issuer : Setup) (says : Result Asked Refusal) (checked : Checked) : Type 0 where
  pub asked : Ok (asked_of checked) ≡ says
  pub passed : HasPassed issuer checked

-- if the ATC is below the window of the card's top, which is an ATC too, the request is refused; otherwise the ATC is
-- claimed once
abbrev pub Claims : ℕ → ℕ → Option ℕ → ClaimView → Result Checked Refusal → ClaimView → Type 0
Claims card counter top seen (Err refusal) after =
    (told : ℕ) × (top ≡ Some told) × (told < COUNTERS) × IsBelow top counter × (refusal ≡ Below told) × (after ≡ seen)
Claims card counter top seen (Ok (Decide found claim)) after =
    (IsBelow top counter → ⊥) × (found.card ≡ card) × (after ≡ after_claim claim card counter seen)
    × (claim ≡ Won → IsNew card counter seen)
Claims card counter top seen (Ok _) after = ⊥

-- a request of the card with this number
pub record ChecksRequest (card counter : ℕ) (before : ClaimView) (result : Result Checked Refusal) (after : ClaimView)
    : Type 0 where
  pub top : Option ℕ
  pub top_is : IsTopFor before card top
  pub claims : Claims card counter top (after_top card top before) result after

-- what the check of a line makes of a pass's claims: a line that is refused as it is parsed leaves them unchanged, and
-- so does an order; a request reads its card's top, and claims its ATC
abbrev pub PreChecks : Setup → Result Asked Refusal → ClaimView → Result Checked Refusal → ClaimView → Type 0
PreChecks issuer (Err refusal) before result after = (result ≡ Err refusal) × (after ≡ before)
PreChecks issuer (Ok (AsksDecision request)) before result after =
    (card : ℕ) × (number_of (card_of request) issuer.cards ≡ Some card)
    × ChecksRequest card request.atc before result after
PreChecks issuer (Ok asked) before result after = IsOk result × (after ≡ before)
