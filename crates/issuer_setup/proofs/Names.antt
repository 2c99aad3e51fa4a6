-- The names of cards: which cards have a name, and the name of the card with a number.
use Rattle.std.proofs.Common.{◌≡◌, ℕ, zero, suc, ◌<◌, true, false, List, [], ◌∷◌, length, get_or, refl, ap, sym, Some, arith}
use Rattle.std.proofs.lemmas.Bool.{and_parts, and_from, eqb-true, eq-eqb, false_from_ne_true}
use Rattle.std.specs.List.{slice_get}
use lib.Pointwise.{bytes_decides}
use Rattle.issuer_base.specs.CardNames.{CardName}
use Rattle.issuer_setup.specs.declared.card.CardInfo.{CardInfo}
use Rattle.issuer_setup.specs.CardList.{name_of, is_named}

-- the name of the card with this number, or an empty name
abbrev pub name_at : List CardInfo → ℕ → CardName
name_at [] number = record { pan = []; psn = 0 }
name_at (card ∷ cards) zero = name_of card
name_at (card ∷ cards) (suc number) = name_at cards number

-- a card has its own name
pub is_named-own : (name : CardName) (card : CardInfo) → name_of card ≡ name → is_named name card ≡ true
unfolding is_named
is_named-own name card same =
    let pan : name.pan ≡ card.pan = sym (ap (λ (name : CardName). name.pan) same) in
    let psn : name.psn ≡ card.psn = sym (ap (λ (name : CardName). name.psn) same) in
    and_from _ _ ((bytes_decides name.pan card.pan).1 pan) (eq-eqb name.psn card.psn psn)

pub is_named-same : (name : CardName) (card : CardInfo) → is_named name card ≡ true → name_of card ≡ name
unfolding is_named
is_named-same name card named =
    let parts = and_parts _ _ named in
    let pan : name.pan ≡ card.pan = (bytes_decides name.pan card.pan).0 parts.0 in
    let psn : name.psn ≡ card.psn = eqb-true name.psn card.psn parts.1 in
    λ i. record { pan = sym pan i; psn = sym psn i }

pub is_named-other : (name : CardName) (card : CardInfo) → (name_of card ≡ name → ⊥) → is_named name card ≡ false
is_named-other name card other = false_from_ne_true (is_named name card) (λ named. other (is_named-same name card named))

-- the name of the card with a number
pub name_at-get_or : (cards : List CardInfo) (number : ℕ) (card : CardInfo) → number < length cards → name_at cards number ≡ name_of (get_or cards number card)
name_at-get_or [] number card below = absurd (omega arith)
name_at-get_or (first ∷ cards) zero card below = refl
name_at-get_or (first ∷ cards) (suc number) card below = name_at-get_or cards number card (omega arith)

pub name_at-slice_get : (cards : List CardInfo) (number : ℕ) (card : CardInfo) → slice_get cards number ≡ Some card → name_at cards number ≡ name_of card
name_at-slice_get [] number card is = absurd (cc)
name_at-slice_get (first ∷ cards) zero card is = let same : first ≡ card = cc in ap name_of same
name_at-slice_get (first ∷ cards) (suc number) card is = name_at-slice_get cards number card is
