-- The batches in the records of a card, and the effect of one more record of its shard on them.
use Rattle.std.proofs.Common.{◌≡◌, ℕ, ◌≤◌, true, List, [], ◌∷◌, ◌++◌, take, Option, Some, None}
use Rattle.std.proofs.Common.{Contains, refl, ap, sym, ◌∙◌, subst, inl, inr, ◌⊎◌, suc, max, arith}
use Rattle.std.proofs.lemmas.List.Elements.{All-contains}
use Rattle.std.proofs.lemmas.Option.{same_Some}
use Rattle.std.proofs.lemmas.Bool.{cases_lt}
use Rattle.std.specs.List.{slice_get}
use Rattle.std.specs.Option.{option_map_or}
use Rattle.issuer_base.specs.declared.command.Command.{Command}
use Rattle.issuer_base.specs.declared.request.Request.{Request}
use Rattle.issuer_base.specs.declared.answer.Reply.{Reply}
use Rattle.issuer_base.specs.declared.entry.Entry.{Entry}
use Rattle.issuer_base.specs.declared.entry.Entry.TheVariants.{Decided}
use Rattle.card_history.specs.declared.decision.Decision.{Decision}
use Rattle.issuer_base.specs.CardNames.{CardName}
use Rattle.card_history.specs.Records.{is_of, decided, greatest_atc}
use Rattle.card_history.specs.Scripts.{scripts_of, batch_of}
use Rattle.card_history.specs.ScriptOrder.{IsSentAt}
use Rattle.card_history.specs.Turns.{IsUnused}
use Rattle.card_history.proofs.LongerHistories.{slice_get-push_cases, before-push, before-last}
use Rattle.card_history.proofs.OneMoreRecord.{greatest-above, greatest-none}
use Rattle.card_history.proofs.RecordPlaces.{recorded-decided}
use Rattle.card_history.proofs.ScriptSteps.{scripts-hi}

-- a greatest counter is none, or some
pub cases_top : (hi : Option ℕ) → (hi ≡ None) ⊎ ((top : ℕ) × (hi ≡ Some top))
cases_top None = inl refl
cases_top (Some top) = inr (top, refl)

-- a record decided this request of the card, and this is its batch
pub record HasBatch (name : CardName) (history : List Entry) (request : Request) (batch : List Command) : Type 0 where
  pub place : ℕ
  pub reply : Reply
  pub record_is : slice_get history place ≡ Some (Decided request reply)
  pub its : is_of name request ≡ true
  pub batch_is : batch ≡ batch_of request (scripts_of name (take place history))

-- the batch that a record says it sent
pub sent-batch : (name : CardName) (history : List Entry) (place first : ℕ) (batch : List Command) (sent : IsSentAt name history place first batch)
    → HasBatch name history sent.request batch
sent-batch name history place first batch sent =
    record { place = place; reply = sent.reply; record_is = sent.record_is; its = sent.its; batch_is = sent.commands_are }

-- the record that was added decided this request of the card
pub record IsAdded (name : CardName) (history : List Entry) (entry : Entry) (request : Request) (batch : List Command) : Type 0 where
  pub reply : Reply
  pub entry_is : entry ≡ Decided request reply
  pub its : is_of name request ≡ true
  pub batch_is : batch ≡ batch_of request (scripts_of name history)

-- a batch of a longer history was there before, or is that of the record that was added
pub batch-was : (name : CardName) (history : List Entry) (entry : Entry) (request : Request) (batch : List Command)
    → HasBatch name (history ++ entry ∷ []) request batch → HasBatch name history request batch ⊎ IsAdded name history entry request batch
batch-was name history entry request batch has =
    elim (slice_get-push_cases history entry has.place (Decided request has.reply) has.record_is) [
      | inl before ↦ inl (record {
        place = has.place;
        reply = has.reply;
        record_is = before;
        its = has.its;
        batch_is = has.batch_is
            ∙ ap (λ (records : List Entry). batch_of request (scripts_of name records))
            (before-push history entry has.place (Decided request has.reply) before);
      })
      | inr last ↦ inr (record {
        reply = has.reply;
        entry_is = last.1;
        its = has.its;
        batch_is = has.batch_is
            ∙ ap (λ (records : List Entry). batch_of request (scripts_of name records))
            (ap (λ n. take n (history ++ entry ∷ [])) last.0 ∙ before-last history entry);
      })
    ]

-- a recorded request of the card is one of its decisions
recorded-one : (name : CardName) (history : List Entry) (place : ℕ) (request : Request) (reply : Reply)
    → slice_get history place ≡ Some (Decided request reply) → is_of name request ≡ true
    → (top : ℕ) → (scripts_of name history).hi ≡ Some top → request.atc ≤ top
recorded-one name history place request reply is its top top_is =
    All-contains (λ (decision : Decision). decision.request.atc ≤ top) (decided name history)
    (record { request = request; reply = reply; place = place })
    (greatest-above (decided name history) top (sym (scripts-hi name history) ∙ top_is))
    (recorded-decided name history place request reply is its)

-- so there is a greatest counter, and the request's isn't above it
pub recorded-top : (name : CardName) (history : List Entry) (place : ℕ) (request : Request) (reply : Reply)
    → slice_get history place ≡ Some (Decided request reply) → is_of name request ≡ true
    → (top : ℕ) × ((scripts_of name history).hi ≡ Some top) × (request.atc ≤ top)
recorded-top name history place request reply is its =
    elim (cases_top (scripts_of name history).hi) [
      | inl none ↦
          let empty : decided name history ≡ [] = greatest-none (decided name history) (sym (scripts-hi name history) ∙ none) in
          let here = recorded-decided name history place request reply is its in
          let in_none : Contains [] (record { request = request; reply = reply; place = place }) =
          subst (λ (decisions : List Decision). Contains decisions (record { request = request; reply = reply; place = place })) empty here in
          absurd (omega (arith, in_none.1))
      | inr (top, is_top) ↦ (top, is_top, recorded-one name history place request reply is its top is_top)
    ]

-- no record is on an unused counter
pub unused-apart : (name : CardName) (history : List Entry) (request other : Request) (batch : List Command)
    → IsUnused (decided name history) request → HasBatch name history other batch → other.atc ≡ request.atc → ⊥
unused-apart name history request other batch unused has =
    All-contains (λ (decision : Decision). decision.request.atc ≡ request.atc → ⊥) (decided name history)
    (record { request = other; reply = has.reply; place = has.place }) unused.unrecorded
    (recorded-decided name history has.place other has.reply has.record_is has.its)

-- some decision is on the greatest counter
pub greatest-one : (decisions : List Decision) (top : ℕ) → greatest_atc decisions ≡ Some top
    → (decision : Decision) × Contains decisions decision × (decision.request.atc ≡ top)
greatest-one [] top is = absurd (cc)
greatest-one (first ∷ decisions) top is =
    elim (cases_top (greatest_atc decisions)) [
      | inl none ↦
          let alone : first.request.atc ≡ top = same_Some _ _ (sym (ap (λ so_far. Some (option_map_or (λ counter. max first.request.atc counter) so_far
          first.request.atc)) none) ∙ is) in
          (first, (0, omega arith, refl), alone)
      | inr (so_far, some) ↦
          let larger : max first.request.atc so_far ≡ top = same_Some _ _ (sym (ap (λ so_far. Some (option_map_or (λ counter. max first.request.atc counter)
          so_far first.request.atc)) some) ∙ is) in
          elim (cases_lt first.request.atc so_far) [
            | inl later ↦
                let it = greatest-one decisions so_far some in
                (it.0, (suc it.1.0, let below = it.1.1 in omega arith, it.1.2), omega (arith, it.2))
            | inr here ↦ (first, (0, omega arith, refl), omega arith)
          ]
    ]

-- so an unused counter isn't the greatest
pub unused-top : (name : CardName) (history : List Entry) (request : Request) (top : ℕ) → IsUnused (decided name history) request
    → (scripts_of name history).hi ≡ Some top → request.atc ≡ top → ⊥
unused-top name history request top unused top_is same =
    let it = greatest-one (decided name history) top (sym (scripts-hi name history) ∙ top_is) in
    All-contains (λ (decision : Decision). decision.request.atc ≡ request.atc → ⊥) (decided name history) it.0 unused.unrecorded it.1 (it.2 ∙ sym same)
