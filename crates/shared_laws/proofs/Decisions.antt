-- Decisions on a card's ATC among the records of its shard, by what claims and tops show of them.
use Rattle.std.proofs.Common.{◌≡◌, ◌⊎◌, ◌<◌, ℕ, zero, suc, max, List, [], ◌∷◌, Bool, true, false, ◌&&◌, eqb, ◌||◌}
use Rattle.std.proofs.Common.{Contains, Option, None, Some, refl, sym, ap, ◌∙◌, inl, inr, arith}
use Rattle.std.proofs.lemmas.Bool.{cases_lt, cases_Bool, and_parts, and_from, eqb-true, eq-eqb}
use Rattle.std.proofs.lemmas.Option.{same_Some}
use Rattle.std.specs.List.{slice_get}
use Rattle.std.specs.Option.{option_map_or}
use Rattle.issuer_base.specs.declared.answer.Reply.{Reply}
use Rattle.issuer_base.specs.declared.entry.Entry.{Entry}
use Rattle.issuer_base.specs.declared.entry.Entry.TheVariants.{Decided, Queued as IsQueued, Status as IsStatus}
use Rattle.issuer_base.specs.declared.request.Request.{Request}
use Rattle.card_history.specs.declared.decision.Decision.{Decision}
use Rattle.issuer_base.specs.CardNames.{CardName}
use Rattle.card_history.specs.Records.{card_of, decided, greatest_atc}
use Rattle.card_history.proofs.CardNames.{is_of-names}
use Rattle.card_history.proofs.RecordPlaces.{decided-recorded}
use Rattle.issuer_setup.specs.declared.card.CardInfo.{CardInfo}
use Rattle.issuer_setup.specs.CardList.{number_of, name_of}
use Rattle.issuer_setup.specs.IssuerSetup.{Setup}
use Rattle.issuer_setup.proofs.CardListLemmas.{number_of-found}
use Rattle.shared_seats.specs.Totals.{one_if}
use Rattle.shared_shards.specs.declared.logs.LogItem.{LogItem}
use Rattle.shared_shards.specs.declared.logs.LogItem.TheVariants.{Record, Fault}
use Rattle.shared_shards.specs.ShardLogs.{records_of}
use Rattle.shard_book.specs.Histories.{GoesOn}
use Rattle.shared_laws.specs.Decisions.{is_number, decides}
use Rattle.shared_laws.specs.OpeningLogs.{is_decided}
use Rattle.one_caller.proofs.LegalBooks.{goes-stays}
use Rattle.shared_laws.specs.Explained.{IsDecidedOn}

-- some record is a decision on this ATC of the issuer's card with this number
pub record IsNumbered (issuer : Setup) (card counter : ℕ) (history : List Entry) : Type 0 where
  pub place : ℕ
  pub request : Request
  pub reply : Reply
  pub record_is : slice_get history place ≡ Some (Decided request reply)
  pub number_is : number_of (card_of request) issuer.cards ≡ Some card
  pub counter_is : request.atc ≡ counter

-- it stays where the history goes on
pub numbered-stays : (issuer : Setup) (card counter : ℕ) (first last : List Entry) → GoesOn first last → IsNumbered issuer card counter first
    → IsNumbered issuer card counter last
numbered-stays issuer card counter first last on its = record {
  place = its.place;
  request = its.request;
  reply = its.reply;
  record_is = goes-stays first last on its.place (Decided its.request its.reply) its.record_is;
  number_is = its.number_is;
  counter_is = its.counter_is;
}

-- two names with one number are one name
pub one-name : (cards : List CardInfo) (first second : CardName) (number : ℕ) → number_of first cards ≡ Some number → number_of second cards ≡ Some number
    → first ≡ second
one-name cards first second number first_is second_is =
    let one = number_of-found first cards number first_is in
    let two = number_of-found second cards number second_is in
    let same : one.0 ≡ two.0 = same_Some one.0 two.0 (sym one.1 ∙ two.1) in
    sym one.2 ∙ ap (λ (card : CardInfo). name_of card) same ∙ two.2

-- a decision of the card with the number of this one is one of this card
pub numbered-decided : (issuer : Setup) (card counter : ℕ) (name : CardName) (history : List Entry) → number_of name issuer.cards ≡ Some card
    → IsNumbered issuer card counter history → IsDecidedOn name counter history
numbered-decided issuer card counter name history number_is its = record {
  place = its.place;
  request = its.request;
  reply = its.reply;
  record_is = its.record_is;
  card_is = one-name issuer.cards (card_of its.request) name card its.number_is number_is;
  counter_is = its.counter_is;
}

-- ---- what the opening logs tell

number-found : (card : ℕ) (found : Option ℕ) → is_number card found ≡ true → found ≡ Some card
number-found card None is = absurd (cc)
number-found card (Some other) is = ap Some (eqb-true other card is)

numbered-later : (issuer : Setup) (card counter : ℕ) (entry : Entry) (history : List Entry) → IsNumbered issuer card counter history
    → IsNumbered issuer card counter (entry ∷ history)
numbered-later issuer card counter entry history its = record {
  place = suc its.place;
  request = its.request;
  reply = its.reply;
  record_is = its.record_is;
  number_is = its.number_is;
  counter_is = its.counter_is;
}

pub decided-numbered : (issuer : Setup) (card counter : ℕ) (items : List LogItem) → is_decided issuer items card counter ≡ true
    → IsNumbered issuer card counter (records_of items)
decided-numbered issuer card counter [] is = absurd (cc)
decided-numbered issuer card counter (Record (Decided request reply) ∷ items) is =
    let test : Bool = is_number card (number_of (card_of request) issuer.cards) && eqb request.atc counter in
    elim (cases_Bool test) [
      | inl here ↦
          let parts = and_parts _ _ here in
          record {
            place = zero;
            request = request;
            reply = reply;
            record_is = refl;
            number_is = number-found card (number_of (card_of request) issuer.cards) parts.0;
            counter_is = eqb-true request.atc counter parts.1;
          }
      | inr other ↦
          let rest : is_decided issuer items card counter ≡ true = sym (ap (λ test. test || is_decided issuer items card counter) other) ∙ is in
          numbered-later issuer card counter (Decided request reply) (records_of items) (decided-numbered issuer card counter items rest)
    ]
decided-numbered issuer card counter (Record (IsQueued pan psn command) ∷ items) is =
    numbered-later issuer card counter (IsQueued pan psn command) (records_of items) (decided-numbered issuer card counter items is)
decided-numbered issuer card counter (Record (IsStatus pan psn status) ∷ items) is =
    numbered-later issuer card counter (IsStatus pan psn status) (records_of items) (decided-numbered issuer card counter items is)
decided-numbered issuer card counter (Fault count ∷ items) is = decided-numbered issuer card counter items is

-- and it tells each decision
pub numbered-tells : (issuer : Setup) (card counter : ℕ) (items : List LogItem) (place : ℕ) (request : Request) (reply : Reply)
    → slice_get (records_of items) place ≡ Some (Decided request reply) → number_of (card_of request) issuer.cards ≡ Some card → request.atc ≡ counter
    → is_decided issuer items card counter ≡ true
numbered-tells issuer card counter [] place request reply is number_is on_counter = absurd (cc)
numbered-tells issuer card counter (Fault count ∷ items) place request reply is number_is on_counter =
    numbered-tells issuer card counter items place request reply is number_is on_counter
numbered-tells issuer card counter (Record entry ∷ items) zero request reply is number_is on_counter =
    let same : entry ≡ Decided request reply = same_Some entry (Decided request reply) is in
    let here : decides issuer card counter (Some (Record (Decided request reply))) ≡ true =
    and_from (is_number card (number_of (card_of request) issuer.cards)) (eqb request.atc counter)
    (ap (is_number card) number_is ∙ eq-eqb card card refl) (eq-eqb request.atc counter on_counter) in
    ap (λ test. test || is_decided issuer items card counter)
    (ap (λ (entry : Entry). decides issuer card counter (Some (Record entry))) same ∙ here)
numbered-tells issuer card counter (Record entry ∷ items) (suc place) request reply is number_is on_counter =
    or-right (decides issuer card counter (Some (Record entry))) (is_decided issuer items card counter)
    (numbered-tells issuer card counter items place request reply is number_is on_counter)
  where
    or-right : (first rest : Bool) → rest ≡ true → (first || rest) ≡ true
    or-right true rest is = refl
    or-right false rest is = is

pub one-true : (test : Bool) → 0 < one_if test → test ≡ true
one-true true some = refl
one-true false some = absurd (omega arith)

-- ---- what the greatest ATC tells

cases-top : (found : Option ℕ) → (found ≡ None) ⊎ ((top : ℕ) × (found ≡ Some top))
cases-top None = inl refl
cases-top (Some top) = inr (top, refl)

-- some decision is on the greatest ATC
greatest-one : (decisions : List Decision) (top : ℕ) → greatest_atc decisions ≡ Some top
    → (decision : Decision) × Contains decisions decision × (decision.request.atc ≡ top)
greatest-one [] top is = absurd (cc)
greatest-one (first ∷ decisions) top is =
    elim (cases-top (greatest_atc decisions)) [
      | inl none ↦
          let alone : first.request.atc ≡ top =
          same_Some _ _ (sym (ap (λ so_far. Some (option_map_or (λ counter. max first.request.atc counter) so_far first.request.atc)) none) ∙ is) in
          (first, (0, omega arith, refl), alone)
      | inr (so_far, some) ↦
          let larger : max first.request.atc so_far ≡ top =
          same_Some _ _ (sym (ap (λ so_far. Some (option_map_or (λ counter. max first.request.atc counter) so_far first.request.atc)) some) ∙ is) in
          elim (cases_lt first.request.atc so_far) [
            | inl later ↦
                let it = greatest-one decisions so_far some in
                (it.0, (suc it.1.0, (let below = it.1.1 in omega arith), it.1.2), omega (arith, it.2))
            | inr here ↦ (first, (0, omega arith, refl), omega arith)
          ]
    ]

-- the greatest ATC of a card is that of one of its records
pub greatest-decided : (name : CardName) (history : List Entry) (top : ℕ) → greatest_atc (decided name history) ≡ Some top → IsDecidedOn name top history
greatest-decided name history top is =
    let it = greatest-one (decided name history) top is in
    let stands = decided-recorded name history it.0 it.1 in
    record {
      place = it.0.place;
      request = it.0.request;
      reply = it.0.reply;
      record_is = stands.0;
      card_is = sym (is_of-names name it.0.request stands.1);
      counter_is = it.2;
    }

pub decided-stays : (name : CardName) (counter : ℕ) (first last : List Entry) → GoesOn first last → IsDecidedOn name counter first
    → IsDecidedOn name counter last
decided-stays name counter first last on its = record {
  place = its.place;
  request = its.request;
  reply = its.reply;
  record_is = goes-stays first last on its.place (Decided its.request its.reply) its.record_is;
  card_is = its.card_is;
  counter_is = its.counter_is;
}
