-- A line that is answered `Pending`: what its caller had seen, and whose claim it was.
use Rattle.std.proofs.Common.{◌≡◌, ◌≢◌, ℕ, ◌<◌, List, length, Bool, true, false, Some, Contains}
use Rattle.std.proofs.Common.{Result, Ok, Err, refl, sym, ap, ◌∙◌, subst, arith}
use Rattle.std.proofs.lemmas.List.Elements.{All-contains}
use Rattle.issuer_base.specs.declared.answer.Answer.{Answer}
use Rattle.issuer_base.specs.declared.answer.Answer.TheVariants.{Fresh, Kept, Queued, Set, Refused}
use Rattle.issuer_base.specs.declared.answer.Refusal.{Refusal}
use Rattle.issuer_base.specs.declared.answer.Refusal.TheVariants.{Below, Taken, Pending}
use Rattle.issuer_base.specs.declared.answer.Reply.{Reply}
use Rattle.issuer_base.specs.declared.entry.Entry.{Entry}
use Rattle.issuer_base.specs.declared.entry.Entry.TheVariants.{Decided}
use Rattle.issuer_base.specs.declared.request.Request.{Request}
use Rattle.card_history.specs.declared.decision.Asked.{Asked}
use Rattle.card_history.specs.declared.decision.Asked.TheVariants.{Decide as AsksDecision, Queue as AsksQueue, Status as AsksStatus}
use Rattle.card_history.specs.declared.decision.Decision.{Decision}
use Rattle.issuer_base.specs.CardNames.{CardName}
use Rattle.card_history.specs.Records.{card_of, decided}
use Rattle.card_history.specs.Turns.{IsUnused, IsUsed, decided_for}
use Rattle.card_history.proofs.CardNames.{is_of-card_of, is_of-names}
use Rattle.card_history.proofs.LongerHistories.{slice_get-push}
use Rattle.card_history.proofs.RecordPlaces.{decided-recorded, recorded-decided}
use Rattle.issuer_setup.specs.CardList.{number_of}
use Rattle.issuer_setup.specs.IssuerSetup.{Setup, shard_of}
use Rattle.shard_book.specs.Replying.{reply_to}
use Rattle.claim_words.specs.declared.view.ClaimView.{ClaimView}
use Rattle.claim_words.specs.declared.claim_words.Claim.TheVariants.{Won, Lost}
use Rattle.claim_words.specs.ClaimViews.{times, after_claim, after_top}
use Rattle.claim_words.proofs.ClaimCounts.{times-cons}
use Rattle.shard_book.specs.Answering.{AnswersClaimed}
use Rattle.turn_book.specs.Logs.{items_at, IsFront}
use Rattle.shared_shards.specs.declared.logs.LogItem.{LogItem}
use Rattle.shared_shards.specs.ShardLogs.{records_of}
use Rattle.shared_shards.specs.Turned.{log_after}
use Rattle.turn_book.proofs.LogLemmas.{items-with_same}
use Rattle.shared_laws.specs.declared.checked.Checked.{Checked}
use Rattle.line_checks.specs.declared.checked.CheckedOrder.TheVariants.{Command as IsCommand, Status as IsStatus}
use Rattle.shared_laws.specs.declared.checked.Checked.TheVariants.{Decide, Order}
use Rattle.shared_laws.specs.Authorising.{EndsIn, Authorises}
use Rattle.shared_laws.specs.PreChecks.{asked_of, PreChecks}
use Rattle.shared_laws.specs.Explained.{IsDecidedOn}
use Rattle.shared_laws.specs.OwnPlaces.{shows_record}
use Rattle.shared_laws.proofs.CallTurns.{ShardView}
use Rattle.shared_laws.proofs.ClaimSteps.{won-answers}
use Rattle.shared_laws.proofs.Decisions.{decided-stays}
use Rattle.shared_laws.proofs.Seen.{records-go_on}

-- ---- a decision in a history

-- a decision stays where more items are added
pub decision-later : (card : CardName) (counter : ℕ) (items later : List LogItem) → IsFront items later → IsDecidedOn card counter (records_of items)
    → IsDecidedOn card counter (records_of later)
decision-later card counter items later front has =
    decided-stays card counter (records_of items) (records_of later) (records-go_on items later front) has

-- where a request's ATC is unused, no decision is on it
pub unused-none : (history : List Entry) (request : Request) → IsUnused (decided_for request history) request
    → IsDecidedOn (card_of request) request.atc history → ⊥
unused-none history request unused has =
    let its = subst (λ (name : CardName). Contains (decided name history) (record { request = has.request; reply = has.reply; place = has.place })) has.card_is
    (recorded-decided (card_of has.request) history has.place has.request has.reply has.record_is (is_of-card_of has.request)) in
    All-contains (λ (decision : Decision). decision.request.atc ≢ request.atc) (decided_for request history)
    (record { request = has.request; reply = has.reply; place = has.place }) unused.unrecorded its has.counter_is

used-has : (history : List Entry) (request : Request) (decision : Decision) → IsUsed (decided_for request history) request decision
    → IsDecidedOn (card_of request) request.atc history
used-has history request decision used =
    let it = decided-recorded (card_of request) history decision used.recorded in
    record {
      place = decision.place;
      request = decision.request;
      reply = decision.reply;
      record_is = it.0;
      card_is = sym (is_of-names (card_of request) decision.request it.1);
      counter_is = used.same_counter;
    }

-- an answer that shows a record of its ATC is true of a history that has one
shown-has : (shard : ℕ) (reply : List Entry → Request → Reply) (won : Bool) (old : List Entry) (request : Request) (answer : Answer) (new : List Entry)
    → shows_record answer ≡ true → AnswersClaimed shard reply won old request answer new → IsDecidedOn (card_of request) request.atc new
shown-has shard reply won old request (Fresh at place given) new shows (claimed, (unused, at_is, place_is, reply_is, after_is)) =
    subst (IsDecidedOn (card_of request) request.atc) (sym after_is) (record {
      place = length old;
      request = request;
      reply = given;
      record_is = slice_get-push old (Decided request given);
      card_is = refl;
      counter_is = refl;
    })
shown-has shard reply won old request (Kept at place given) new shows (used, at_is, after_is) =
    subst (IsDecidedOn (card_of request) request.atc) (sym after_is)
    (used-has old request (record { request = request; reply = given; place = place }) used)
shown-has shard reply won old request (Refused (Taken at place)) new shows ((decision, used, place_is, apart), at_is, after_is) =
    subst (IsDecidedOn (card_of request) request.atc) (sym after_is) (used-has old request decision used)
shown-has shard reply won old request (Queued at place) new shows changes = absurd (cc)
shown-has shard reply won old request (Set at place) new shows changes = absurd (cc)
shown-has shard reply won old request (Refused refusal) new shows changes = absurd (cc)

-- ---- one call

module _ (issuer : Setup) (before : ClaimView) (logs : ShardView) (answer : Answer) (after : ClaimView) (logs_now : ShardView) where
  finished-shown : (checked : Checked) (between : ClaimView) (request : Request) → shard_of issuer (card_of request) < length logs.seen
      → shows_record answer ≡ true → EndsIn issuer (Ok (AsksDecision request)) (Ok checked) between logs answer after logs_now
      → IsDecidedOn (card_of request) request.atc (records_of (items_at logs_now.seen (shard_of issuer (card_of request))))
  finished-shown (Decide found claim) between request below shows (says_is, turn, claims_are, won) =
      let same : found.request ≡ request = cc in
      let here : shard_of issuer (card_of found.request) < length logs.seen =
      subst (λ (request : Request). shard_of issuer (card_of request) < length logs.seen) (sym same) below in
      let has = shown-has (shard_of issuer (card_of found.request)) (reply_to issuer) _ (records_of turn.between) found.request answer
      (records_of (log_after turn.between turn.added)) shows turn.changes in
      let seen = ap (λ (view : ShardView). items_at view.seen (shard_of issuer (card_of found.request))) turn.after_is
      ∙ items-with_same logs.seen (shard_of issuer (card_of found.request)) (log_after turn.between turn.added) here in
      subst (λ (request : Request). IsDecidedOn (card_of request) request.atc (records_of (items_at logs_now.seen (shard_of issuer (card_of request))))) same
      (subst (λ (items : List LogItem). IsDecidedOn (card_of found.request) found.request.atc (records_of items)) (sym seen) has)
  finished-shown (Order (IsCommand found)) between request below shows (says_is, turn, claims_are, won) = absurd (cc)
  finished-shown (Order (IsStatus found)) between request below shows (says_is, turn, claims_are, won) = absurd (cc)

  ended-shown : (checked : Result Checked Refusal) (between : ClaimView) (request : Request)
      → PreChecks issuer (Ok (AsksDecision request)) before checked between
      → shard_of issuer (card_of request) < length logs.seen
      → shows_record answer ≡ true → EndsIn issuer (Ok (AsksDecision request)) checked between logs answer after logs_now
      → IsDecidedOn (card_of request) request.atc (records_of (items_at logs_now.seen (shard_of issuer (card_of request))))
  ended-shown (Err refusal) between request (card, number_is, checks) below shows (answer_is, claims_are, logs_are) =
      let (told, top_is, bounded, lower, refusal_is, kept) = checks.claims in
      let away : shows_record answer ≡ false = ap shows_record (answer_is ∙ ap (λ (refusal : Refusal). Refused refusal) refusal_is) in
      absurd (cc)
  ended-shown (Ok checked) between request checks below shows ends = finished-shown checked between request below shows ends

  -- a call that shows a record of its ATC has seen it then
  pub call-shown : (request : Request) → shard_of issuer (card_of request) < length logs.seen → shows_record answer ≡ true
      → Authorises issuer (Ok (AsksDecision request)) before logs answer after logs_now
      → IsDecidedOn (card_of request) request.atc (records_of (items_at logs_now.seen (shard_of issuer (card_of request))))
  call-shown request below shows call = ended-shown call.checked call.between request call.checks below shows call.ends

-- a request that lost its claim, and whose ATC was unused in the log that its caller had then seen
pub record IsLost (issuer : Setup) (says : Result Asked Refusal) (logs : ShardView) (after : ClaimView) : Type 0 where
  pub request : Request
  pub says_is : says ≡ Ok (AsksDecision request)
  pub card : ℕ
  pub number_is : number_of (card_of request) issuer.cards ≡ Some card
  pub found : 0 < times card request.atc after.found
  pub between : List LogItem
  pub front : IsFront (items_at logs.seen (shard_of issuer (card_of request))) between
  pub unused : IsUnused (decided_for request (records_of between)) request

finished-lost : (issuer : Setup) (before : ClaimView) (logs : ShardView) (after : ClaimView) (logs_now : ShardView) (checked : Checked) (between : ClaimView)
    → PreChecks issuer (Ok (asked_of checked)) before (Ok checked) between
    → EndsIn issuer (Ok (asked_of checked)) (Ok checked) between logs (Refused Pending) after logs_now → IsLost issuer (Ok (asked_of checked)) logs after
finished-lost issuer before logs after logs_now (Decide found Won) between checks (says_is, turn, claims_are, won) =
    absurd (won-answers (shard_of issuer (card_of found.request)) (reply_to issuer) (records_of turn.between) found.request (Refused Pending)
    (records_of (log_after turn.between turn.added)) turn.changes refl)
finished-lost issuer before logs after logs_now (Decide found Lost) between (card, number_is, checks) (says_is, turn, claims_are, won) =
    let (in_window, card_is, kept, new) = checks.claims in
    let view = after_top card checks.top before in
    let is : after ≡ after_claim Lost card found.request.atc view = claims_are ∙ kept in
    let some = times-cons card found.request.atc view.found in
    record {
      request = found.request;
      says_is = refl;
      card = card;
      number_is = number_is;
      found = subst (λ (view : ClaimView). 0 < times card found.request.atc view.found) (sym is) (omega (arith, some));
      between = turn.between;
      front = turn.front;
      unused = turn.changes.1;
    }
finished-lost issuer before logs after logs_now (Order (IsCommand found)) between checks (says_is, turn, claims_are, won) = absurd turn.changes
finished-lost issuer before logs after logs_now (Order (IsStatus found)) between checks (says_is, turn, claims_are, won) = absurd turn.changes

refused-lost : (issuer : Setup) (says : Result Asked Refusal) (before : ClaimView) (between : ClaimView) → (says ≡ Err Pending → ⊥)
    → PreChecks issuer says before (Err Pending) between → ⊥
refused-lost issuer (Err first) before between never (same, kept) = never (sym (let e : Err Pending ≡ Err first = same in cc))
refused-lost issuer (Ok (AsksDecision request)) before between never (card, number_is, checks) =
    let (told, top_is, bounded, lower, refusal_is, kept) = checks.claims in let other : Pending ≡ Below told = refusal_is in cc
refused-lost issuer (Ok (AsksQueue pan psn command)) before between never (ok, kept) = cc
refused-lost issuer (Ok (AsksStatus pan psn status)) before between never (ok, kept) = cc

ended-lost : (issuer : Setup) (says : Result Asked Refusal) (before : ClaimView) (logs : ShardView) (after : ClaimView) (logs_now : ShardView)
    (checked : Result Checked Refusal) (between : ClaimView) → (says ≡ Err Pending → ⊥) → PreChecks issuer says before checked between
    → EndsIn issuer says checked between logs (Refused Pending) after logs_now → IsLost issuer says logs after
ended-lost issuer says before logs after logs_now (Err refusal) between never checks (answer_is, claims_are, logs_are) =
    let same : refusal ≡ Pending = let e : Refused Pending ≡ Refused refusal = answer_is in cc in
    absurd (refused-lost issuer says before between never (subst (λ (refusal : Refusal). PreChecks issuer says before (Err refusal) between) same checks))
ended-lost issuer says before logs after logs_now (Ok checked) between never checks ends =
    let says_is = ends.0 in
    subst (λ (says : Result Asked Refusal). IsLost issuer says logs after) says_is
    (finished-lost issuer before logs after logs_now checked between
    (subst (λ (says : Result Asked Refusal). PreChecks issuer says before (Ok checked) between) (sym says_is) checks)
    (refl, ends.1, ends.2, ends.3))

-- a call that is told that its ATC is pending is for a request that lost its claim
pub call-lost : (issuer : Setup) (says : Result Asked Refusal) (before : ClaimView) (logs : ShardView) (after : ClaimView) (logs_now : ShardView)
    → (says ≡ Err Pending → ⊥) → Authorises issuer says before logs (Refused Pending) after logs_now → IsLost issuer says logs after
call-lost issuer says before logs after logs_now never call =
    ended-lost issuer says before logs after logs_now call.checked call.between never call.checks call.ends
