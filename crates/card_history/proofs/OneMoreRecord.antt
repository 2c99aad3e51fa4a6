-- What one more record at the end of a history changes for a card.
use Rattle.std.proofs.Common.{◌≡◌, ℕ, ◌+◌, max, true, false, List, [], ◌∷◌, ◌++◌, length, Option, None, Some, refl, ap, sym, ◌∙◌, add-zero, append-nil, subst}
use Rattle.std.proofs.Common.{inl, inr, ◌⊎◌, ◌≤◌, arith}
use Rattle.std.proofs.lemmas.Bool.{cond-true, cond-false}
use Rattle.std.proofs.lemmas.List.Elements.{All-from_recursion, filter_map-append}
use Rattle.std.proofs.lemmas.Option.{same_Some}
use Rattle.std.specs.List.{All, AllByRecursion, cons_option, enumerate_from, filter_map}
use Rattle.std.specs.Option.{option_map_or}
use Rattle.issuer_base.specs.declared.request.Request.{Request}
use Rattle.issuer_base.specs.declared.answer.Reply.{Reply}
use Rattle.issuer_base.specs.declared.entry.Entry.{Entry}
use Rattle.issuer_base.specs.declared.entry.Entry.TheVariants.{Decided}
use Rattle.card_history.specs.declared.decision.Decision.{Decision}
use Rattle.issuer_base.specs.CardNames.{CardName}
use Rattle.card_history.specs.Records.{is_of, its_decision, decided, greatest_atc}

-- a card's decisions among records of which the first has this index
abbrev pub decided_from : ℕ → CardName → List Entry → List Decision
decided_from place card records = filter_map (its_decision card) (enumerate_from place records)

enumerate_from-append : (place : ℕ) (before after : List Entry)
    → enumerate_from place (before ++ after) ≡ enumerate_from place before ++ enumerate_from (place + length before) after
enumerate_from-append place [] after = ap (λ n. enumerate_from n after) (sym (add-zero place))
enumerate_from-append place (entry ∷ before) after =
    let at : place + 1 + length before ≡ place + length (entry ∷ before) = omega arith in
    ap (λ (numbered : List (ℕ × Entry)). (place, entry) ∷ numbered)
    (enumerate_from-append (place + 1) before after ∙ ap (λ n. enumerate_from (place + 1) before ++ enumerate_from n after) at)

-- the decisions among records that are followed by others
pub decided_from-append : (place : ℕ) (card : CardName) (before after : List Entry)
    → decided_from place card (before ++ after) ≡ decided_from place card before ++ decided_from (place + length before) card after
decided_from-append place card before after =
    ap (filter_map (its_decision card)) (enumerate_from-append place before after)
    ∙ filter_map-append (its_decision card) (enumerate_from place before) (enumerate_from (place + length before) after)

module _ (place : ℕ) (card : CardName) (request : Request) (reply : Reply) (records : List Entry) where
  -- a decided record of the card is the first of the decisions from it on
  pub decided_from-its : is_of card request ≡ true
      → decided_from place card (Decided request reply ∷ records)
      ≡ record { request = request; reply = reply; place = place } ∷ decided_from (place + 1) card records
  decided_from-its its =
      ap (λ (first : Option Decision). cons_option first (decided_from (place + 1) card records)) (cond-true (is_of card request) _ _ its)

  -- one of another card is none of them
  pub decided_from-other : is_of card request ≡ false
      → decided_from place card (Decided request reply ∷ records) ≡ decided_from (place + 1) card records
  decided_from-other other =
      ap (λ (first : Option Decision). cons_option first (decided_from (place + 1) card records)) (cond-false (is_of card request) _ _ other)

-- a decided record of the card is its last decision, at the place after the last record
pub decided-more : (card : CardName) (history : List Entry) (request : Request) (reply : Reply) → is_of card request ≡ true
    → decided card (history ++ Decided request reply ∷ []) ≡ decided card history ++ record { request = request; reply = reply; place = length history } ∷ []
decided-more card history request reply its =
    let place : 0 + length history ≡ length history = omega arith in
    decided_from-append 0 card history (Decided request reply ∷ [])
    ∙ ap (λ last. decided card history ++ last) (decided_from-its (0 + length history) card request reply [] its)
    ∙ ap (λ n. decided card history ++ record { request = request; reply = reply; place = n } ∷ []) place

-- a decided record of another card is none of its decisions
pub decided-other : (card : CardName) (history : List Entry) (request : Request) (reply : Reply) → is_of card request ≡ false
    → decided card (history ++ Decided request reply ∷ []) ≡ decided card history
decided-other card history request reply other =
    decided_from-append 0 card history (Decided request reply ∷ [])
    ∙ ap (λ last. decided card history ++ last) (decided_from-other (0 + length history) card request reply [] other)
    ∙ append-nil (decided card history)

-- one more decision raises the greatest counter, or leaves it
pub greatest-more : (decisions : List Decision) (decision : Decision)
    → greatest_atc (decisions ++ decision ∷ []) ≡ Some (option_map_or (λ top. max top decision.request.atc) (greatest_atc decisions) decision.request.atc)
greatest-more [] decision = refl
greatest-more (first ∷ decisions) decision =
    ap (λ so_far. Some (option_map_or (λ counter. max first.request.atc counter) so_far first.request.atc)) (greatest-more decisions decision)
    ∙ elim (greatest_atc decisions) as (λ so_far. Some (max first.request.atc (option_map_or (λ top. max top decision.request.atc) so_far decision.request.atc))
    ≡ Some (max (option_map_or (λ counter. max first.request.atc counter) so_far first.request.atc) decision.request.atc)) [
      | None ↦ refl
      | Some top ↦ let same : max first.request.atc (max top decision.request.atc) ≡ max (max first.request.atc top) decision.request.atc =
          omega arith in ap Some same
    ]

-- only no decisions have no greatest counter
pub greatest-none : (decisions : List Decision) → greatest_atc decisions ≡ None → decisions ≡ []
greatest-none [] none = refl
greatest-none (first ∷ decisions) none = cc

cases_greatest : (decisions : List Decision) → (greatest_atc decisions ≡ None) ⊎ ((top : ℕ) × (greatest_atc decisions ≡ Some top))
cases_greatest [] = inl refl
cases_greatest (first ∷ decisions) = inr (_, refl)

below-all : (decisions : List Decision) (so_far top : ℕ) → so_far ≤ top → AllByRecursion (λ decision. decision.request.atc ≤ so_far) decisions
    → AllByRecursion (λ decision. decision.request.atc ≤ top) decisions
below-all [] so_far top le below = tt
below-all (first ∷ decisions) so_far top le below = (omega arith, below-all decisions so_far top le below.1)

greatest-above_each : (decisions : List Decision) (top : ℕ) → greatest_atc decisions ≡ Some top
    → AllByRecursion (λ decision. decision.request.atc ≤ top) decisions
greatest-above_each [] top is = tt
greatest-above_each (first ∷ decisions) top is =
    elim (cases_greatest decisions) [
      | inl none ↦
          let alone : first.request.atc ≡ top =
          same_Some _ _ (sym (ap (λ so_far. Some (option_map_or (λ counter. max first.request.atc counter) so_far first.request.atc)) none) ∙ is) in (
            omega arith,
            subst (λ (some : List Decision). AllByRecursion (λ decision. decision.request.atc ≤ top) some)
                (sym (greatest-none decisions none)) tt,
          )
      | inr (so_far, some) ↦
          let larger : max first.request.atc so_far ≡ top =
          same_Some _ _ (sym (ap (λ so_far. Some (option_map_or (λ counter. max first.request.atc counter) so_far first.request.atc)) some) ∙ is) in
          (omega arith, below-all decisions so_far top (omega arith) (greatest-above_each decisions so_far some))
    ]

-- no decision is on a greater counter than the greatest
pub greatest-above : (decisions : List Decision) (top : ℕ) → greatest_atc decisions ≡ Some top → All (λ decision. decision.request.atc ≤ top) decisions
greatest-above decisions top is = All-from_recursion (λ decision. decision.request.atc ≤ top) decisions (greatest-above_each decisions top is)
