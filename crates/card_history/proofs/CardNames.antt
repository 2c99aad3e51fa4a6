-- Which requests and account and sequence numbers are of a card: just those that name it.
use Rattle.std.proofs.Common.{◌≡◌, ℕ, List, true, false, refl, sym, subst}
use Rattle.std.proofs.lemmas.Bool.{and_parts, and_from, eqb-true, eq-eqb, false_from_ne_true}
use lib.Pointwise.{bytes_decides}
use Rattle.issuer_base.specs.declared.request.Request.{Request}
use Rattle.issuer_base.specs.CardNames.{CardName, named}
use Rattle.card_history.specs.Records.{card_of, is_of, has_numbers}

-- a request is of the card that its numbers name
pub is_of-card_of : (request : Request) → is_of (card_of request) request ≡ true
unfolding is_of
is_of-card_of request =
    and_from _ _ ((bytes_decides request.pan request.pan).1 refl) (eq-eqb request.psn request.psn refl)

-- a request that is of a card names it
pub is_of-names : (card : CardName) (request : Request) → is_of card request ≡ true → card ≡ card_of request
unfolding is_of
is_of-names card request same =
    let parts = and_parts _ _ same in
    let pan : request.pan ≡ card.pan = (bytes_decides request.pan card.pan).0 parts.0 in
    let psn : request.psn ≡ card.psn = eqb-true request.psn card.psn parts.1 in
    λ i. record { pan = sym pan i; psn = sym psn i }

-- so it is of no other card
pub is_of-other : (card : CardName) (request : Request) → (card ≡ card_of request → ⊥) → is_of card request ≡ false
is_of-other card request other = false_from_ne_true (is_of card request) (λ same. other (is_of-names card request same))

-- two requests of which one is of the other's card are of one card
pub is_of-same : (first second : Request) → card_of first ≡ card_of second → is_of (card_of first) second ≡ true
is_of-same first second same = subst (λ (card : CardName). is_of card second ≡ true) (sym same) (is_of-card_of second)

-- numbers are those of the card that they name
pub has_numbers-named : (pan : List ℕ) (psn : ℕ) → has_numbers (named pan psn) pan psn ≡ true
unfolding has_numbers
has_numbers-named pan psn = and_from _ _ ((bytes_decides pan pan).1 refl) (eq-eqb psn psn refl)

-- numbers that are a card's name it
pub has_numbers-names : (card : CardName) (pan : List ℕ) (psn : ℕ) → has_numbers card pan psn ≡ true → card ≡ named pan psn
unfolding has_numbers
has_numbers-names card pan psn same =
    let parts = and_parts _ _ same in
    let pan_is : pan ≡ card.pan = (bytes_decides pan card.pan).0 parts.0 in
    let psn_is : psn ≡ card.psn = eqb-true psn card.psn parts.1 in
    λ i. record { pan = sym pan_is i; psn = sym psn_is i }

-- so they are no other card's
pub has_numbers-other : (card : CardName) (pan : List ℕ) (psn : ℕ) → (card ≡ named pan psn → ⊥) → has_numbers card pan psn ≡ false
has_numbers-other card pan psn other = false_from_ne_true (has_numbers card pan psn) (λ same. other (has_numbers-names card pan psn same))
