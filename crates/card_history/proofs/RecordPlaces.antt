-- A card's decisions are the decided records of the history that are of the card, each with its index.
use Rattle.std.proofs.Common.{◌≡◌, ℕ, zero, suc, ◌+◌, true, List, [], ◌∷◌, Contains, Some, refl, sym, subst, inl, inr, ◌⊎◌, add-zero, arith}
use Rattle.std.proofs.lemmas.Bool.{cases_Bool}
use Rattle.std.specs.List.{slice_get}
use Rattle.issuer_base.specs.declared.request.Request.{Request}
use Rattle.issuer_base.specs.declared.answer.Reply.{Reply}
use Rattle.issuer_base.specs.declared.entry.Entry.{Entry}
use Rattle.issuer_base.specs.declared.entry.Entry.TheVariants.{Decided, Queued, Status}
use Rattle.card_history.specs.declared.decision.Decision.{Decision}
use Rattle.issuer_base.specs.CardNames.{CardName}
use Rattle.card_history.specs.Records.{is_of, decided}
use Rattle.card_history.proofs.OneMoreRecord.{decided_from, decided_from-its, decided_from-other}

Contains-cons : {X : Type 0} (x : X) (xs : List X) (y : X) → Contains xs y → Contains (x ∷ xs) y
Contains-cons x xs y (k, below, is) = (suc k, omega arith, is)

Contains-cons_cases : {X : Type 0} (x : X) (xs : List X) (y : X) → Contains (x ∷ xs) y → (x ≡ y) ⊎ Contains xs y
Contains-cons_cases x xs y (zero, below, is) = inl is
Contains-cons_cases x xs y (suc k, below, is) = inr (k, omega arith, is)

-- the decided record of this decision, among records of which the first stands at this place
record IsRecord (place : ℕ) (card : CardName) (records : List Entry) (decision : Decision) : Type 0 where
  index : ℕ
  place_is : decision.place ≡ place + index
  record_is : slice_get records index ≡ Some (Decided decision.request decision.reply)
  its : is_of card decision.request ≡ true

later : (place : ℕ) (card : CardName) (first : Entry) (records : List Entry) (decision : Decision) → IsRecord (place + 1) card records decision
    → IsRecord place card (first ∷ records) decision
later place card first records decision found =
    record { index = suc found.index; place_is = omega (arith, found.place_is); record_is = found.record_is; its = found.its }

recorded_from : (place : ℕ) (card : CardName) (records : List Entry) (decision : Decision) → Contains (decided_from place card records) decision
    → IsRecord place card records decision
recorded_from place card [] decision (k, below, is) = absurd (omega arith)
recorded_from place card (Decided request reply ∷ records) decision here =
    elim (cases_Bool (is_of card request)) [
      | inl its ↦
          let made : Decision = record { request = request; reply = reply; place = place } in
          let within : Contains (made ∷ decided_from (place + 1) card records) decision =
          subst (λ (decisions : List Decision). Contains decisions decision) (decided_from-its place card request reply records its) here in
          elim (Contains-cons_cases made _ decision within) [
            | inl same ↦ subst (λ (decision : Decision). IsRecord place card (Decided request reply ∷ records) decision) same
                (record { index = zero; place_is = omega arith; record_is = refl; its = its })
            | inr after ↦ later place card (Decided request reply) records decision (recorded_from (place + 1) card records decision after)
          ]
      | inr other ↦
          let within : Contains (decided_from (place + 1) card records) decision =
          subst (λ (decisions : List Decision). Contains decisions decision) (decided_from-other place card request reply records other) here in
          later place card (Decided request reply) records decision (recorded_from (place + 1) card records decision within)
    ]
recorded_from place card (Queued pan psn command ∷ records) decision here =
    later place card (Queued pan psn command) records decision (recorded_from (place + 1) card records decision here)
recorded_from place card (Status pan psn status ∷ records) decision here =
    later place card (Status pan psn status) records decision (recorded_from (place + 1) card records decision here)

decision_from : (place : ℕ) (card : CardName) (records : List Entry) (index : ℕ) (request : Request) (reply : Reply)
    → slice_get records index ≡ Some (Decided request reply) → is_of card request ≡ true
    → Contains (decided_from place card records) (record { request = request; reply = reply; place = place + index })
decision_from place card [] index request reply is its = absurd (cc)
decision_from place card (first ∷ records) zero request reply is its =
    let same : first ≡ Decided request reply = cc in
    let made : Decision = record { request = request; reply = reply; place = place } in
    let here : Contains (decided_from place card (Decided request reply ∷ records)) made =
    subst (λ (decisions : List Decision). Contains decisions made) (sym (decided_from-its place card request reply records its)) (0, omega arith, refl) in
    let at : place ≡ place + 0 = sym (add-zero place) in
    subst (λ (n : ℕ). Contains (decided_from place card (first ∷ records)) (record { request = request; reply = reply; place = n })) at
    (subst (λ (first : Entry). Contains (decided_from place card (first ∷ records)) made) (sym same) here)
decision_from place card (Decided other answer ∷ records) (suc index) request reply is its =
    let at : place + 1 + index ≡ place + suc index = omega arith in
    let after =
    subst (λ (n : ℕ). Contains (decided_from (place + 1) card records) (record { request = request; reply = reply; place = n })) at
    (decision_from (place + 1) card records index request reply is its) in
    let there : List Decision → Type 0 = λ decisions. Contains decisions (record { request = request; reply = reply; place = place + suc index }) in
    elim (cases_Bool (is_of card other)) [
      | inl of_it ↦ subst there (sym (decided_from-its place card other answer records of_it)) (Contains-cons _ _ _ after)
      | inr of_other ↦ subst there (sym (decided_from-other place card other answer records of_other)) after
    ]
decision_from place card (Queued pan psn command ∷ records) (suc index) request reply is its =
    let at : place + 1 + index ≡ place + suc index = omega arith in
    subst (λ (n : ℕ). Contains (decided_from (place + 1) card records) (record { request = request; reply = reply; place = n })) at
    (decision_from (place + 1) card records index request reply is its)
decision_from place card (Status pan psn status ∷ records) (suc index) request reply is its =
    let at : place + 1 + index ≡ place + suc index = omega arith in
    subst (λ (n : ℕ). Contains (decided_from (place + 1) card records) (record { request = request; reply = reply; place = n })) at
    (decision_from (place + 1) card records index request reply is its)

-- each decision of a card is a decided record at its place
pub decided-recorded : (card : CardName) (history : List Entry) (decision : Decision) → Contains (decided card history) decision
    → (slice_get history decision.place ≡ Some (Decided decision.request decision.reply)) × (is_of card decision.request ≡ true)
decided-recorded card history decision here =
    let found = recorded_from 0 card history decision here in
    let at : found.index ≡ decision.place = omega (arith, found.place_is) in
    (subst (λ (n : ℕ). slice_get history n ≡ Some (Decided decision.request decision.reply)) at found.record_is, found.its)

-- each decided record of a card is one of its decisions
pub recorded-decided : (card : CardName) (history : List Entry) (place : ℕ) (request : Request) (reply : Reply)
    → slice_get history place ≡ Some (Decided request reply) → is_of card request ≡ true
    → Contains (decided card history) (record { request = request; reply = reply; place = place })
recorded-decided card history place request reply is its =
    let at : 0 + place ≡ place = omega arith in
    subst (λ (n : ℕ). Contains (decided card history) (record { request = request; reply = reply; place = n })) at
    (decision_from 0 card history place request reply is its)
