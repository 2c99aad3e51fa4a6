-- The ATCs that are recorded of a shard are those of the decisions in its opening log.
use Rattle.std.proofs.Common.{◌≡◌, ◌⊎◌, ◌↔◌, ℕ, zero, suc, ◌%◌, ◌<◌, ◌≤◌, List, [], ◌∷◌, map, Bool, true, false, ◌||◌, eqb, Option, None, Some}
use Rattle.std.proofs.Common.{refl, sym, ap, ◌∙◌, subst, inl, inr, arith}
use Rattle.std.proofs.lemmas.Bool.{cases_lt, cases_Bool, and_from, and_parts, eq-eqb, eqb-true, true≢false}
use Rattle.std.proofs.lemmas.Option.{same_Some}
use Rattle.std.specs.List.{slice_get, list_any}
use Rattle.issuer_base.specs.declared.entry.Entry.{Entry}
use Rattle.issuer_base.specs.declared.entry.Entry.TheVariants.{Decided, Queued, Status}
use Rattle.issuer_base.specs.declared.answer.Reply.{Reply}
use Rattle.issuer_base.specs.declared.request.Request.{Request}
use Rattle.card_history.specs.Records.{card_of, is_of}
use Rattle.card_history.proofs.CardNames.{is_of-names, is_of-card_of}
use Rattle.card_history.proofs.RecordPlaces.{decided-recorded, recorded-decided}
use Rattle.issuer_setup.specs.CardList.{AreCards, name_of, number_of}
use Rattle.issuer_setup.specs.IssuerSetup.{Setup}
use Rattle.issuer_setup.proofs.CardListLemmas.{number_of-found}
use Rattle.shared_seats.specs.Totals.{one_if}
use Rattle.shard_book.specs.Recorded.{IsRecorded}
use Rattle.shared_shards.specs.declared.logs.LogItem.{LogItem}
use Rattle.shared_shards.specs.declared.logs.LogItem.TheVariants.{Record}
use Rattle.shared_laws.specs.Decisions.{is_number, decides}
use Rattle.shared_laws.specs.OpeningLogs.{is_decided}
use Rattle.one_caller.proofs.Shown.{number-known}

-- whether one of the records is a decision on the ATC of the card
record HasDecision (issuer : Setup) (card counter : ℕ) (history : List Entry) : Type 0 where
  place : ℕ
  request : Request
  reply : Reply
  there : slice_get history place ≡ Some (Decided request reply)
  number_is : number_of (card_of request) issuer.cards ≡ Some card
  on_counter : request.atc ≡ counter

is_number-true : (card : ℕ) (found : Option ℕ) → is_number card found ≡ true → found ≡ Some card
is_number-true card None is = absurd (cc)
is_number-true card (Some found) is = ap Some (eqb-true found card is)

or-cases : (first rest : Bool) → (first || rest) ≡ true → (first ≡ true) ⊎ (rest ≡ true)
or-cases true rest is = inl refl
or-cases false rest is = inr is

module _ (issuer : Setup) (card counter : ℕ) where
  abbrev test : LogItem → Bool
  test item = decides issuer card counter (Some item)

  later-decision : (entry : Entry) (history : List Entry) → HasDecision issuer card counter history → HasDecision issuer card counter (entry ∷ history)
  later-decision entry history rest = record {
    place = suc rest.place;
    request = rest.request;
    reply = rest.reply;
    there = rest.there;
    number_is = rest.number_is;
    on_counter = rest.on_counter;
  }

  found-decision : (history : List Entry) → list_any test (map Record history) ≡ true → HasDecision issuer card counter history
  found-decision [] is = absurd (cc)
  found-decision (Decided request reply ∷ history) is =
      elim (or-cases (test (Record (Decided request reply))) (list_any test (map Record history)) is) [
        | inl here ↦
            let both = and_parts (is_number card (number_of (card_of request) issuer.cards)) (eqb request.atc counter) here in
            record {
              place = 0;
              request = request;
              reply = reply;
              there = refl;
              number_is = is_number-true card (number_of (card_of request) issuer.cards) both.0;
              on_counter = eqb-true request.atc counter both.1;
            }
        | inr later ↦ later-decision (Decided request reply) history (found-decision history later)
      ]
  found-decision (Queued pan psn command ∷ history) is = later-decision (Queued pan psn command) history (found-decision history is)
  found-decision (Status pan psn status ∷ history) is = later-decision (Status pan psn status) history (found-decision history is)

  or-right : (first rest : Bool) → rest ≡ true → (first || rest) ≡ true
  or-right true rest is = refl
  or-right false rest is = is

  decision-found : (history : List Entry) (place : ℕ) (request : Request) (reply : Reply) → slice_get history place ≡ Some (Decided request reply)
      → number_of (card_of request) issuer.cards ≡ Some card → request.atc ≡ counter → list_any test (map Record history) ≡ true
  decision-found [] place request reply there number_is on_counter = absurd (cc)
  decision-found (entry ∷ history) zero request reply there number_is on_counter =
      let same : entry ≡ Decided request reply = same_Some entry (Decided request reply) there in
      let passes : test (Record (Decided request reply)) ≡ true =
      and_from (is_number card (number_of (card_of request) issuer.cards)) (eqb request.atc counter)
      (ap (is_number card) number_is ∙ eq-eqb card card refl) (eq-eqb request.atc counter on_counter) in
      ap (λ (first : Bool). first || list_any test (map Record history)) (ap (λ (entry : Entry). test (Record entry)) same ∙ passes)
  decision-found (entry ∷ history) (suc place) request reply there number_is on_counter =
      or-right (test (Record entry)) (list_any test (map Record history)) (decision-found history place request reply there number_is on_counter)

  -- an ATC is recorded of a card of the shard just where a record of the shard's decides it
  pub recorded-decides : (history : List Entry) → AreCards issuer.cards → IsRecorded issuer (card % issuer.shards) history card counter
      → is_decided issuer (map Record history) card counter ≡ true
  recorded-decides history valid recorded =
      let it = decided-recorded (name_of recorded.card) history recorded.decision recorded.is_decided in
      let name : name_of recorded.card ≡ card_of recorded.decision.request = is_of-names (name_of recorded.card) recorded.decision.request it.1 in
      decision-found history recorded.decision.place recorded.decision.request recorded.decision.reply it.0
      (ap (λ name. number_of name issuer.cards) (sym name) ∙ number-known issuer.cards card recorded.card valid recorded.card_is) recorded.on_counter

  pub decides-recorded : (history : List Entry) → is_decided issuer (map Record history) card counter ≡ true
      → IsRecorded issuer (card % issuer.shards) history card counter
  decides-recorded history is =
      let it = found-decision history is in
      let its = number_of-found (card_of it.request) issuer.cards card it.number_is in
      record {
        card = its.0;
        card_is = its.1;
        home = refl;
        decision = record { request = it.request; reply = it.reply; place = it.place };
        is_decided = recorded-decided (name_of its.0) history it.place it.request it.reply it.there
            (subst (λ name. is_of name it.request ≡ true) (sym its.2) (is_of-card_of it.request));
        on_counter = it.on_counter;
      }

  -- so a number that is at most 1, and above 0 just where the ATC is recorded, tells whether it is
  pub as-decided : (history : List Entry) (count : ℕ) → AreCards issuer.cards → count ≤ 1
      → ((0 < count) ↔ IsRecorded issuer (card % issuer.shards) history card counter)
      → count ≡ one_if (is_decided issuer (map Record history) card counter)
  as-decided history count valid few exact =
      elim (cases_Bool (is_decided issuer (map Record history) card counter)) [
        | inl is ↦ let some = exact.1 (decides-recorded history is) in omega (arith, some, few, ap one_if is)
        | inr not ↦
            elim (cases_lt 0 count) [
              | inl some ↦ absurd (true≢false (sym (recorded-decides history valid (exact.0 some)) ∙ not))
              | inr none ↦ omega (arith, none, ap one_if not)
            ]
      ]
