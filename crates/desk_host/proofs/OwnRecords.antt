-- What a card's own records determine: its scripts, its status, its decisions, and so its reply.
use Rattle.std.proofs.Common.{◌≡◌, ℕ, ◌+◌, ◌<◌, Bool, false, List, [], ◌∷◌, ◌++◌, map, length, max, get_or, Contains, refl, sym, ap, ap₂, ◌∙◌, arith, inl, inr, Option, None, Some, append-nil}
use Rattle.std.specs.List.{filter, fold, last_or, slice_get}
use Rattle.std.specs.Option.{option_map_or, unwrap_or}
use Rattle.std.proofs.lemmas.Bool.{cases_Bool, cond-false}
use Rattle.std.proofs.lemmas.List.{get_or-map, length-map}
use Rattle.std.proofs.lemmas.List.Elements.{Contains-get_or, filter-append}
use Rattle.issuer_base.specs.CardNames.{CardName}
use Rattle.issuer_base.specs.declared.answer.Reply.{Reply}
use Rattle.issuer_base.specs.declared.entry.Entry.{Entry}
use Rattle.issuer_base.specs.declared.entry.Entry.TheVariants.{Decided, Queued, Status}
use Rattle.issuer_base.specs.declared.request.Request.{Request}
use Rattle.card_history.specs.Records.{card_of, decided, greatest_atc, has_numbers, is_of, status_of}
use Rattle.card_history.proofs.OneMoreRecord.{decided_from}
use Rattle.card_history.proofs.OtherRecords.{statuses}
use Rattle.card_history.specs.Scripts.{Scripts, after_record, no_scripts, scripts_of}
use Rattle.card_history.specs.declared.decision.Decision.{Decision}
use Rattle.issuer_setup.specs.CardList.{number_of}
use Rattle.issuer_setup.specs.IssuerSetup.{Setup, keys_of}
use Rattle.shard_book.specs.Replying.{decided_reply, reply_by, reply_of_card, reply_to}
use Rattle.desk_host.specs.Isolation.{is_record_of, own_records}

-- ---- what other cards' records leave

fold-filter : {A B : Type 0} (f : B → A → B) (test : A → Bool) → ((b : B) (a : A) → test a ≡ false → f b a ≡ b)
    → (start : B) (xs : List A) → fold f start (filter test xs) ≡ fold f start xs
fold-filter f test skips start [] = refl
fold-filter f test skips start (x ∷ xs) =
    elim (cases_Bool (test x)) [
      | inl here ↦ rw here (fold-filter f test skips (f start x) xs)
      | inr apart ↦ rw apart (fold-filter f test skips start xs ∙ ap (λ b. fold f b xs) (sym (skips start x apart)))
    ]

module _ (card : CardName) where
  skips-other : (scripts : Scripts) (entry : Entry) → is_record_of card entry ≡ false → after_record card scripts entry ≡ scripts
  skips-other scripts (Decided request reply) other = cond-false (is_of card request) _ _ other
  skips-other scripts (Queued pan psn command) other = cond-false (has_numbers card pan psn) _ _ other
  skips-other scripts (Status pan psn status) other = refl

  scripts-own : (history : List Entry) → scripts_of card (own_records card history) ≡ scripts_of card history
  scripts-own history = fold-filter (after_record card) (is_record_of card) skips-other no_scripts history

  statuses-own : (history : List Entry) → statuses card (own_records card history) ≡ statuses card history
  statuses-own [] = refl
  statuses-own (Decided request reply ∷ history) =
      elim (cases_Bool (is_of card request)) [
        | inl its ↦ rw its (statuses-own history)
        | inr other ↦ rw other (statuses-own history)
      ]
  statuses-own (Queued pan psn command ∷ history) =
      elim (cases_Bool (has_numbers card pan psn)) [
        | inl its ↦ rw its (statuses-own history)
        | inr other ↦ rw other (statuses-own history)
      ]
  statuses-own (Status pan psn status ∷ history) =
      elim (cases_Bool (has_numbers card pan psn)) [
        | inl its ↦ rw its (rw its (ap (λ (xs : List ℕ). status ∷ xs) (statuses-own history)))
        | inr other ↦ rw other (statuses-own history)
      ]

  -- a decision without its index
  abbrev pub core : Decision → Request × Reply
  core decision = (decision.request, decision.reply)

  decided-own : (mine all : ℕ) (history : List Entry)
      → map core (decided_from mine card (own_records card history)) ≡ map core (decided_from all card history)
  decided-own mine all [] = refl
  decided-own mine all (Decided request reply ∷ history) =
      elim (cases_Bool (is_of card request)) [
        | inl its ↦ rw its (rw its (ap (λ (xs : List (Request × Reply)). (request, reply) ∷ xs) (decided-own (mine + 1) (all + 1) history)))
        | inr other ↦ rw other (decided-own mine (all + 1) history)
      ]
  decided-own mine all (Queued pan psn command ∷ history) =
      elim (cases_Bool (has_numbers card pan psn)) [
        | inl its ↦ rw its (decided-own (mine + 1) (all + 1) history)
        | inr other ↦ rw other (decided-own mine (all + 1) history)
      ]
  decided-own mine all (Status pan psn status ∷ history) =
      elim (cases_Bool (has_numbers card pan psn)) [
        | inl its ↦ rw its (decided-own (mine + 1) (all + 1) history)
        | inr other ↦ rw other (decided-own mine (all + 1) history)
      ]

  -- ---- two histories with the same records of the card

  module _ (one other : List Entry) (same : own_records card one ≡ own_records card other) where
    pub scripts-same : scripts_of card one ≡ scripts_of card other
    scripts-same = sym (scripts-own one) ∙ ap (scripts_of card) same ∙ scripts-own other

    pub status-same : status_of card one ≡ status_of card other
    status-same =
        ap (λ (given : List ℕ). unwrap_or (last_or None given) 0)
        (sym (statuses-own one) ∙ ap (statuses card) same ∙ statuses-own other)

    pub decided-same : map core (decided card one) ≡ map core (decided card other)
    decided-same = sym (decided-own 0 0 one) ∙ ap (λ (records : List Entry). map core (decided card records)) same ∙ decided-own 0 0 other

-- ---- replies

module _ (issuer : Setup) (request : Request) (one other : List Entry) (same : own_records (card_of request) one ≡ own_records (card_of request) other) where
  reply-of_number : (number : Option ℕ) → reply_of_card issuer number one request ≡ reply_of_card issuer number other request
  reply-of_number None = refl
  reply-of_number (Some number) =
      elim (slice_get issuer.cards number) as
      (λ card. reply_by card (keys_of issuer number request) issuer.table one request
      ≡ reply_by card (keys_of issuer number request) issuer.table other request) [
        | None ↦ refl
        | Some card ↦
            elim (keys_of issuer number request) as
            (λ keys. reply_by (Some card) keys issuer.table one request ≡ reply_by (Some card) keys issuer.table other request) [
              | None ↦ refl
              | Some keys ↦
                  ap₂ (λ (scripts : Scripts) (status : ℕ). decided_reply card.method keys issuer.table scripts status request)
                  (scripts-same (card_of request) one other same) (status-same (card_of request) one other same)
            ]
      ]

  pub reply-same : reply_to issuer one request ≡ reply_to issuer other request
  reply-same = reply-of_number (number_of (card_of request) issuer.cards)

-- ---- decisions that are the same but for their indexes

pub greatest-same : (card : CardName) (mine theirs : List Decision) → map (core card) mine ≡ map (core card) theirs → greatest_atc mine ≡ greatest_atc theirs
greatest-same card [] [] same = refl
greatest-same card [] (their ∷ theirs) same = absurd (cc)
greatest-same card (my ∷ mine) [] same = absurd (cc)
greatest-same card (my ∷ mine) (their ∷ theirs) same =
    let first : core card my ≡ core card their = cc in
    let rest : map (core card) mine ≡ map (core card) theirs = cc in
    ap₂ (λ (counter : ℕ) (top : Option ℕ). Some (option_map_or (λ other. max counter other) top counter))
    (ap (λ (pair : Request × Reply). pair.0.atc) first) (greatest-same card mine theirs rest)

-- a decision of the one is one of the other
pub record IsAmong (decisions : List Decision) (decision : Decision) : Type 0 where
  pub found : Decision
  pub there : Contains decisions found
  pub request_is : found.request ≡ decision.request
  pub reply_is : found.reply ≡ decision.reply

pub contains-same : (card : CardName) (mine theirs : List Decision) → map (core card) mine ≡ map (core card) theirs
    → (decision : Decision) → Contains mine decision → IsAmong theirs decision
contains-same card mine theirs same decision (k, within, is) =
    let long = ap length same in
    let my_length = length-map mine (core card) in
    let their_length = length-map theirs (core card) in
    let there : k < length theirs = omega (arith, long, my_length, their_length) in
    let found = get_or theirs k decision in
    let it : core card found ≡ core card decision =
    sym (get_or-map (core card) theirs k decision (core card decision) there)
    ∙ ap (λ (xs : List (Request × Reply)). get_or xs k (core card decision)) (sym same)
    ∙ get_or-map (core card) mine k decision (core card decision) within ∙ ap (core card) is in
    record {
      found = found;
      there = Contains-get_or theirs k decision there;
      request_is = ap (λ (pair : Request × Reply). pair.0) it;
      reply_is = ap (λ (pair : Request × Reply). pair.1) it;
    }

-- ---- what a record of another card leaves

pub other-added : (card : CardName) (before : List Entry) (entry : Entry) → is_record_of card entry ≡ false
    → own_records card (before ++ entry ∷ []) ≡ own_records card before
other-added card before entry other =
    filter-append (is_record_of card) before (entry ∷ [])
    ∙ ap (λ (xs : List Entry). own_records card before ++ xs) (cond-false (is_record_of card entry) _ _ other)
    ∙ append-nil (own_records card before)
