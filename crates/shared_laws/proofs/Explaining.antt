-- Each answer is explained by the histories before and after the run.
use Rattle.std.proofs.Common.{◌≡◌, ◌≤◌, ◌<◌, ◌+◌, ℕ, List, [], ◌∷◌, ◌++◌, length, Bool}
use Rattle.std.proofs.Common.{Option, Some, Result, Ok, Err, sym, ap, subst, ◌∙◌, arith}
use Rattle.std.proofs.lemmas.List.{length-append}
use Rattle.std.specs.List.{slice_get}
use Rattle.issuer_base.specs.declared.answer.Answer.{Answer}
use Rattle.issuer_base.specs.declared.answer.Answer.TheVariants.{Fresh, Kept, Queued, Set, Refused}
use Rattle.issuer_base.specs.declared.answer.Refusal.{Refusal}
use Rattle.issuer_base.specs.declared.answer.Refusal.TheVariants.{Below, Taken, QueueFull, Pending, StoreFault}
use Rattle.issuer_base.specs.declared.answer.Reply.{Reply}
use Rattle.issuer_base.specs.declared.command.Command.{Command}
use Rattle.issuer_base.specs.declared.entry.Entry.{Entry}
use Rattle.issuer_base.specs.declared.entry.Entry.TheVariants.{Decided, Queued as IsQueued, Status as IsStatus}
use Rattle.issuer_base.specs.declared.limits.TheConstants.{WINDOW}
use Rattle.issuer_base.specs.declared.request.Request.{Request}
use Rattle.card_history.specs.declared.decision.Asked.{Asked}
use Rattle.card_history.specs.declared.decision.Asked.TheVariants.{Decide, Queue, Status}
use Rattle.card_history.specs.declared.decision.Decision.{Decision}
use Rattle.issuer_base.specs.CardNames.{CardName, named}
use Rattle.card_history.specs.Records.{card_of, IsBelow}
use Rattle.card_history.proofs.CardNames.{is_of-names}
use Rattle.card_history.proofs.LongerHistories.{slice_get-push}
use Rattle.card_history.proofs.RecordPlaces.{decided-recorded}
use Rattle.issuer_setup.specs.CardList.{number_of}
use Rattle.issuer_setup.specs.IssuerSetup.{Setup, shard_of}
use Rattle.shard_book.specs.Replying.{reply_to}
use Rattle.claim_words.specs.declared.layout.TheConstants.{COUNTERS}
use Rattle.claim_words.specs.declared.view.ClaimView.{ClaimView}
use Rattle.claim_words.specs.ClaimViews.{times, after_top}
use Rattle.claim_words.proofs.ClaimCounts.{times-cons}
use Rattle.turn_book.specs.declared.view.TurnView.{TurnView}
use Rattle.shard_book.specs.Answering.{AnswersClaimed, AnswersQueueing, AnswersSetting}
use Rattle.shared_shards.specs.declared.logs.LogItem.{LogItem}
use Rattle.shared_shards.specs.declared.logs.LogHead.{LogHead}
use Rattle.shard_book.specs.Histories.{GoesOn}
use Rattle.shard_book.proofs.Histories.{goes-then}
use Rattle.shared_laws.specs.Authorising.{EndsIn, Authorises}
use Rattle.shared_laws.specs.Finishes.{FinishesInTurn, is_won}
use Rattle.shared_laws.specs.PreChecks.{asked_of, PreChecks}
use Rattle.shared_laws.specs.declared.checked.Checked.{Checked}
use Rattle.line_checks.specs.declared.checked.CheckedOrder.TheVariants.{Command as Queues, Status as Sets}
use Rattle.shared_laws.specs.declared.checked.Checked.TheVariants.{Decide as Decides, Order as Orders}
use Rattle.one_caller.proofs.LegalBooks.{goes-stays}
use Rattle.shared_laws.specs.Explained.{history_at, IsDecidedOn, ExplainsRequest, ExplainsCommand, ExplainsStatus, Explains}
use Rattle.shared_laws.proofs.Decisions.{greatest-decided, decided-stays}
use Rattle.shared_laws.proofs.Seen.{goes-same, IsWhole, turn-sees, home-there}

-- ---- by a turn

goes-longer : (first last : List Entry) → GoesOn first last → length first ≤ length last
goes-longer first last on = omega (arith, ap length on.1, length-append first on.0)

-- the record that was added stands at its place to the end
module _ (first between after last : List Entry) (from : GoesOn first between) (to : GoesOn after last) where
  added-there : (entry : Entry) (place : ℕ) → place ≡ length between → after ≡ between ++ entry ∷ []
      → (length first ≤ place) × (slice_get last place ≡ Some entry)
  added-there entry place place_is after_is = (
    omega (arith, place_is, goes-longer first between from),
    goes-stays after last to place entry
        (ap (λ (history : List Entry). slice_get history place) after_is ∙ ap (slice_get (between ++ entry ∷ [])) place_is ∙ slice_get-push between entry),
  )

  -- a record that was there already does, where nothing was added
  stood-there : after ≡ between → GoesOn between last
  stood-there same = goes-then between after last (goes-same between after same) to

  pub request-explained : (shard : ℕ) (reply_to : List Entry → Request → Reply) (won : Bool) (request : Request) (answer : Answer)
      → AnswersClaimed shard reply_to won between request answer after → ExplainsRequest shard first last request answer
  request-explained shard reply_to won request (Fresh at place reply) (claimed, (unused, at_is, place_is, reply_is, after_is)) =
      let there = added-there (Decided request reply) place place_is after_is in
      (at_is, there.0, there.1)
  request-explained shard reply_to won request (Kept at place reply) (used, at_is, after_is) =
      let decision : Decision = record { request = request; reply = reply; place = place } in
      let stands = decided-recorded (card_of request) between decision used.recorded in
      (at_is, goes-stays between last (stood-there after_is) place (Decided request reply) stands.0)
  request-explained shard reply_to won request (Refused (Below top)) (too_old, after_is) = (
    too_old.below,
    decided-stays (card_of request) top between last (stood-there after_is) (greatest-decided (card_of request) between top too_old.greatest_is),
  )
  request-explained shard reply_to won request (Refused (Taken at place)) ((decision, used, place_is, apart), at_is, after_is) =
      let stands = decided-recorded (card_of request) between decision used.recorded in
      let there : slice_get between place ≡ Some (Decided decision.request decision.reply) =
      subst (λ place. slice_get between place ≡ Some (Decided decision.request decision.reply)) place_is stands.0 in (
        at_is,
        record {
          other = decision.request;
          reply = decision.reply;
          record_is = goes-stays between last (stood-there after_is) place (Decided decision.request decision.reply) there;
          card_is = sym (is_of-names (card_of request) decision.request stands.1);
          counter_is = used.same_counter;
          apart = apart;
        },
      )
  request-explained shard reply_to won request (Refused Pending) turn = tt
  request-explained shard reply_to won request (Refused StoreFault) turn = tt
  request-explained shard reply_to won request _ turn = absurd turn

  pub command-explained : (shard : ℕ) (name : CardName) (command : Command) (answer : Answer)
      → AnswersQueueing shard between name command answer after → ExplainsCommand shard first last name command answer
  command-explained shard name command (Queued at place) (room, at_is, place_is, after_is) =
      let there = added-there (IsQueued name.pan name.psn command) place place_is after_is in
      (at_is, there.0, there.1)
  command-explained shard name command (Refused QueueFull) (full, after_is) =
      record { between = between; from_first = from; to_last = stood-there after_is; full = full }
  command-explained shard name command (Refused StoreFault) turn = tt
  command-explained shard name command _ turn = absurd turn

  pub status-explained : (shard : ℕ) (name : CardName) (status : ℕ) (answer : Answer)
      → AnswersSetting shard between name status answer after → ExplainsStatus shard first last name status answer
  status-explained shard name status (Set at place) (at_is, place_is, after_is) =
      let there = added-there (IsStatus name.pan name.psn status) place place_is after_is in
      (at_is, there.0, there.1)
  status-explained shard name status (Refused StoreFault) turn = tt
  status-explained shard name status _ turn = absurd turn

-- ---- by a call

-- what a top told of a request's card is recorded in the end
abbrev pub AreKnown : Setup → ClaimView → (ℕ → List Entry) → Type 0
AreKnown issuer claims last = (request : Request) (card top : ℕ) → number_of (card_of request) issuer.cards ≡ Some card
    → 0 < times card top claims.tops → top < COUNTERS → IsDecidedOn (card_of request) top (last (shard_of issuer (card_of request)))

-- a top that was told is among the pass's
pub told-top : (card told : ℕ) (top : Option ℕ) (before after : ClaimView) → top ≡ Some told → after ≡ after_top card top before
    → 0 < times card told after.tops
told-top card told top before after top_is after_is =
    let tops : after.tops ≡ (card, told) ∷ before.tops =
    ap (λ (view : ClaimView). view.tops) (after_is ∙ ap (λ top. after_top card top before) top_is) in
    omega (arith, ap (times card told) tops, times-cons card told before.tops)

module _ (issuer : Setup) (some : 0 < issuer.shards) (first last : ℕ → List Entry) (answer : Answer) (logs logs_now : TurnView LogItem LogHead)
    (whole : IsWhole issuer logs) (from : (shard : ℕ) → GoesOn (first shard) (history_at logs.seen shard))
    (to : (shard : ℕ) → GoesOn (history_at logs_now.seen shard) (last shard)) where
  finish-explained : (checked : Checked) → FinishesInTurn issuer checked logs answer logs_now → Explains issuer first last (Ok (asked_of checked)) answer
  finish-explained (Decides found claim) turn =
      let shard : ℕ = shard_of issuer (card_of found.request) in
      let below = home-there issuer some answer logs logs_now whole (card_of found.request) in
      let seen = turn-sees issuer shard _ logs answer logs_now below turn in
      request-explained (first shard) seen.between (history_at logs_now.seen shard) (last shard)
      (goes-then (first shard) (history_at logs.seen shard) seen.between (from shard) seen.goes_on) (to shard) shard (reply_to issuer) (is_won claim)
      found.request answer seen.changes
  finish-explained (Orders (Queues found)) turn =
      let shard : ℕ = shard_of issuer (named found.pan found.psn) in
      let below = home-there issuer some answer logs logs_now whole (named found.pan found.psn) in
      let seen = turn-sees issuer shard _ logs answer logs_now below turn in
      command-explained (first shard) seen.between (history_at logs_now.seen shard) (last shard)
      (goes-then (first shard) (history_at logs.seen shard) seen.between (from shard) seen.goes_on) (to shard) shard (named found.pan found.psn)
      found.command answer seen.changes
  finish-explained (Orders (Sets found)) turn =
      let shard : ℕ = shard_of issuer (named found.pan found.psn) in
      let below = home-there issuer some answer logs logs_now whole (named found.pan found.psn) in
      let seen = turn-sees issuer shard _ logs answer logs_now below turn in
      status-explained (first shard) seen.between (history_at logs_now.seen shard) (last shard)
      (goes-then (first shard) (history_at logs.seen shard) seen.between (from shard) seen.goes_on) (to shard) shard (named found.pan found.psn)
      found.status answer seen.changes

  ends-explained : (says : Result Asked Refusal) (checked : Result Checked Refusal) (claims between claims_now : ClaimView)
      → AreKnown issuer claims_now last → PreChecks issuer says claims checked between
      → EndsIn issuer says checked between logs answer claims_now logs_now → Explains issuer first last says answer
  ends-explained says (Ok checked) claims between claims_now known checks ends =
      subst (λ (says : Result Asked Refusal). Explains issuer first last says answer) ends.0 (finish-explained checked ends.1)
  ends-explained (Err refusal) (Err other) claims between claims_now known checks ends =
      let same : other ≡ refusal = let e : Err other ≡ Err refusal = checks.0 in cc in
      ends.0 ∙ ap (λ (refusal : Refusal). Refused refusal) same
  ends-explained (Ok (Decide request)) (Err other) claims between claims_now known (card, number_is, check) ends =
      let told = check.claims in
      let shard : ℕ = shard_of issuer (card_of request) in
      let below : request.atc + WINDOW ≤ told.0 = subst (λ (top : Option ℕ). IsBelow top request.atc) told.1 told.3 in
      let answer_is : answer ≡ Refused (Below told.0) = ends.0 ∙ ap (λ (refusal : Refusal). Refused refusal) told.4 in
      let stands = told-top card told.0 check.top claims claims_now told.1 (ends.1 ∙ told.5) in
      subst (ExplainsRequest shard (first shard) (last shard) request) (sym answer_is) (below, known request card told.0 number_is stands told.2)
  ends-explained (Ok (Queue pan psn command)) (Err other) claims between claims_now known checks ends = absurd (let never = checks.0 in cc)
  ends-explained (Ok (Status pan psn status)) (Err other) claims between claims_now known checks ends = absurd (let never = checks.0 in cc)

  pub line-explained : (says : Result Asked Refusal) (claims claims_now : ClaimView) → AreKnown issuer claims_now last
      → Authorises issuer says claims logs answer claims_now logs_now → Explains issuer first last says answer
  line-explained says claims claims_now known line =
      ends-explained says line.checked claims line.between claims_now known line.checks line.ends
