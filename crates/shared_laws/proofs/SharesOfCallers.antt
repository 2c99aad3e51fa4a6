-- What the laws state of callers, said of their shares of the lines.
use Rattle.std.proofs.Common.{◌≡◌, ◌≢◌, ◌⊎◌, ◌+◌, ◌<◌, ◌≤◌, ℕ, zero, suc, List, [], ◌∷◌, length}
use Rattle.std.proofs.Common.{None, Some, refl, sym, ap, subst, ◌∙◌, inl, inr}
use Rattle.std.proofs.lemmas.List.{length-map}
use Rattle.std.specs.Prelude.{slice_get}
use Rattle.issuer_base.specs.declared.answer.Answer.{Answer}
use Rattle.issuer_base.specs.declared.answer.Answer.TheVariants.{Fresh, Refused}
use Rattle.issuer_base.specs.declared.answer.Refusal.TheVariants.{Below, Pending, StoreFault}
use Rattle.issuer_base.specs.declared.limits.TheConstants.{MAX_FAULTS_REPORTED}
use Rattle.card_history.specs.OneReply.{IsOfItsRecord, reply_in}
use Rattle.issuer_base.specs.CardNames.{CardName}
use Rattle.card_history.specs.Records.{card_of}
use Rattle.issuer_setup.specs.IssuerSetup.{Setup, shard_of}
use Rattle.line_checks.specs.Reading.{reading}
use Rattle.shared_seats.specs.Totals.{total, how_many}
use Rattle.turn_book.specs.declared.logs.Log.{Log}
use Rattle.shared_shards.specs.declared.logs.LogItem.{LogItem}
use Rattle.shared_shards.specs.declared.logs.LogHead.{LogHead}
use Rattle.one_caller.specs.OneHistory.{IsAnswered}
use Rattle.shared_laws.specs.Callers.{Caller}
use Rattle.shared_laws.specs.Explained.{Explains, AreAnsweredInOrder, AreExplained, IsDecidedOn, history_at, histories_in}
use Rattle.shared_laws.specs.FaultCounts.{AreFaultsCounted}
use Rattle.shared_laws.specs.OwnPlaces.{is_record_at, faults_reported, faults_at, AreOwnPlaces, IsPending, LinePasses}
use Rattle.shared_laws.specs.OwnPlaces.{all_faults_reported, answers_at}
use Rattle.shared_laws.specs.Settled.{AreSettled, IsDecidedNow, IsLeft}
use Rattle.shared_laws.specs.Shares.{Share, AreDealt, IsAnsweredOn}
use Rattle.shared_laws.proofs.Lists.{mapped-at}
use Rattle.shared_laws.proofs.CallersAnswers.{AreDealtToCallers, share_of, shares_of}
use Rattle.shared_laws.proofs.CallersAnswers.{IsCallersAnswerOn, AreCallersExplained, AreCallersOwnPlaces}
use Rattle.shared_laws.proofs.CallersAnswers.{IsCallersPending, CallersLinePasses, AreCallersSettled}
use Rattle.shared_laws.proofs.CallersAnswers.{IsCallersDecidedNow, IsCallersLeft, AreCallersFaultsCounted}
use Rattle.shared_laws.proofs.CallersAnswers.{all_callers_faults, callers_answers_at}

share-at : (callers : List Caller) (number : ℕ) (caller : Caller) → slice_get callers number ≡ Some caller
    → slice_get (shares_of callers) number ≡ Some (share_of caller)
share-at [] number caller is = absurd (let e : None ≡ Some caller = is in cc)
share-at (first ∷ callers) zero caller is =
    ap (λ (c : Caller). Some (share_of c)) (let e : Some first ≡ Some caller = is in
    (let same : first ≡ caller = cc in same))
share-at (first ∷ callers) (suc number) caller is = share-at callers number caller is

-- a sum over shares is one over their callers
total-shares : (f : Share → ℕ) (callers : List Caller)
    → total f (shares_of callers) ≡ total (λ caller. f (share_of caller)) callers
total-shares f [] = refl
total-shares f (caller ∷ callers) = ap (λ n. f (share_of caller) + n) (total-shares f callers)

pub dealt-shares : (count : ℕ) (lines : List (List ℕ)) (answers : List Answer) (callers : List Caller)
    → AreDealtToCallers count lines answers callers → AreDealt count lines answers (shares_of callers)
dealt-shares count lines answers callers dealt = record {
  count_is = length-map callers share_of ∙ dealt.count_is;
  answered = dealt.answered;
  lines_are = λ number share is.
      let at = mapped-at share_of callers number share is in
      ap (λ (s : Share). s.lines) at.2 ∙ dealt.lines_are number at.0 at.1;
  answers_are = λ number share is.
      let at = mapped-at share_of callers number share is in
      ap (λ (s : Share). s.answers) at.2 ∙ dealt.answers_are number at.0 at.1;
}

module _ (issuer : Setup) (callers : List Caller) where
  -- ---- the answers on an ATC

  on-shares : (card : CardName) (counter : ℕ) (answer : Answer) → IsCallersAnswerOn issuer callers card counter answer
      → IsAnsweredOn issuer (shares_of callers) card counter answer
  on-shares card counter answer on = record {
    number = on.number;
    share = share_of on.caller;
    share_is = share-at callers on.number on.caller on.caller_is;
    index = on.index;
    request = on.request;
    answered = on.answered;
    card_is = on.card_is;
    counter_is = on.counter_is;
  }

  of-shares : (card : CardName) (counter : ℕ) (answer : Answer)
      → IsAnsweredOn issuer (shares_of callers) card counter answer
      → IsCallersAnswerOn issuer callers card counter answer
  of-shares card counter answer on =
      let at = mapped-at share_of callers on.number on.share on.share_is in
      record {
        number = on.number;
        caller = at.0;
        caller_is = at.1;
        index = on.index;
        request = on.request;
        answered =
            subst (λ (s : Share). IsAnswered issuer s.lines s.answers on.index on.request answer) at.2 on.answered;
        card_is = on.card_is;
        counter_is = on.counter_is;
      }

  -- ---- what explains them

  pub explained-shares : (opening logs : List (Log LogItem LogHead))
      → AreCallersExplained issuer opening logs callers
      → AreExplained issuer (history_at opening) (history_at logs) (histories_in logs) (shares_of callers)
  explained-shares opening logs explained = record {
    answered = λ index share is.
        let at = mapped-at share_of callers index share is in
        subst (λ (s : Share). length s.answers ≡ length s.lines) (sym at.2) (explained.answered index at.0 at.1);
    explained = λ index place share line answer is.
        let at = mapped-at share_of callers index share is in
        subst (λ (s : Share). slice_get s.lines place ≡ Some line → slice_get s.answers place ≡ Some answer
        → Explains issuer (history_at opening) (history_at logs) (reading issuer line) answer) (sym at.2)
        (explained.explained index place at.0 line answer at.1);
    in_order = λ index share is.
        let at = mapped-at share_of callers index share is in
        subst (λ (s : Share). AreAnsweredInOrder issuer (history_at opening) (history_at logs) s.lines s.answers)
        (sym at.2) (explained.in_order index at.0 at.1);
    below_first = λ index place later share request other top shard spot reply is.
        let at = mapped-at share_of callers index share is in
        subst (λ (s : Share). place < later → IsAnswered issuer s.lines s.answers place request (Refused (Below top))
        → IsAnswered issuer s.lines s.answers later other (Fresh shard spot reply)
        → card_of other ≡ card_of request → other.atc ≢ top) (sym at.2)
        (explained.below_first index place later at.0 request other top shard spot reply at.1);
    once = explained.once;
    recorded = λ index place share request answer is.
        let at = mapped-at share_of callers index share is in
        subst (λ (s : Share). IsAnswered issuer s.lines s.answers place request answer
        → IsOfItsRecord (histories_in logs) request answer) (sym at.2)
        (explained.recorded index place at.0 request answer at.1);
    one_reply =
        λ index other_index place other_place share other_share request answer other reply other_reply is other_is.
        let at = mapped-at share_of callers index share is in
        let other_at = mapped-at share_of callers other_index other_share other_is in
        subst (λ (s : Share). IsAnswered issuer s.lines s.answers place request answer
        → IsAnswered issuer other_share.lines other_share.answers other_place request other
        → reply_in answer ≡ Some reply → reply_in other ≡ Some other_reply → reply ≡ other_reply) (sym at.2)
        (subst (λ (s : Share). IsAnswered issuer at.0.lines at.0.answers place request answer
        → IsAnswered issuer s.lines s.answers other_place request other
        → reply_in answer ≡ Some reply → reply_in other ≡ Some other_reply → reply ≡ other_reply) (sym other_at.2)
        (explained.one_reply index other_index place other_place at.0 other_at.0 request answer other reply other_reply
        at.1 other_at.1));
  }

  -- ---- whose records they are

  faults-shares : (shard : ℕ) → all_faults_reported issuer shard (shares_of callers)
      ≡ all_callers_faults issuer shard callers
  faults-shares shard = total-shares (λ share. faults_reported issuer shard share.lines share.answers) callers

  records-shares : (shard place : ℕ) → answers_at shard place (shares_of callers)
      ≡ callers_answers_at shard place callers
  records-shares shard place = total-shares (λ share. how_many (is_record_at shard place) share.answers) callers

  pending-share : (opening : List (Log LogItem LogHead)) (caller : Caller) (index : ℕ)
      → IsCallersPending issuer opening callers caller index
      → IsPending issuer (history_at opening) (shares_of callers) (share_of caller) index
  pending-share opening caller index pending = record {
    request = pending.request;
    answered = pending.answered;
    elsewhere = (
      pending.elsewhere.0,
      on-shares (card_of pending.request) pending.request.atc pending.elsewhere.0 pending.elsewhere.1,
      pending.elsewhere.2,
    );
    unopened = pending.unopened;
    unshown = pending.unshown;
  }

  passes-share : (caller : Caller) (index : ℕ) → CallersLinePasses issuer caller index
      → LinePasses issuer (share_of caller) index
  passes-share caller index passes = record {
    line = passes.line;
    line_is = passes.line_is;
    asked = passes.asked;
    asked_is = passes.asked_is;
  }

  pub own-shares : (opening logs : List (Log LogItem LogHead)) → AreCallersOwnPlaces issuer opening logs callers
      → AreOwnPlaces issuer (history_at opening) (history_at logs) (faults_at logs) (shares_of callers)
  own-shares opening logs own = record {
    places = λ shard place within. records-shares shard place ∙ own.places shard place within;
    pending = λ number index share is.
        let at = mapped-at share_of callers number share is in
        subst (λ (s : Share). slice_get s.answers index ≡ Some (Refused Pending)
        → IsPending issuer (history_at opening) (shares_of callers) s index) (sym at.2)
        (λ answer. pending-share opening at.0 index (own.pending number index at.0 at.1 answer));
    passes = λ number index share is.
        let at = mapped-at share_of callers number share is in
        subst (λ (s : Share). slice_get s.answers index ≡ Some (Refused StoreFault) → LinePasses issuer s index) (sym at.2)
        (λ answer. passes-share at.0 index (own.passes number index at.0 at.1 answer));
    told = λ shard within. subst (λ n. faults_at logs shard ≤ n) (sym (faults-shares shard)) (own.told shard within);
    told_once = λ shard within few. faults-shares shard ∙ own.told_once shard within few;
  }

  pub counted-shares : (logs : List (Log LogItem LogHead)) → AreCallersFaultsCounted issuer logs callers
      → AreFaultsCounted issuer logs (shares_of callers)
  counted-shares logs counted shard was is within rises low few =
      subst (λ (n : ℕ). was + n ≤ is) (sym (faults-shares shard))
      (counted shard was is within rises low
      (subst (λ (n : ℕ). n < MAX_FAULTS_REPORTED) (total-shares (λ share. length share.answers) callers) few))

  -- ---- how ATCs are settled

  now-shares : (card : CardName) (counter : ℕ) → IsCallersDecidedNow issuer callers card counter
      → IsDecidedNow issuer (shares_of callers) card counter
  now-shares card counter now = record {
    shard = now.shard;
    place = now.place;
    reply = now.reply;
    fresh = on-shares card counter (Fresh now.shard now.place now.reply) now.fresh;
  }

  left-shares : (card : CardName) (counter : ℕ) → IsCallersLeft issuer callers card counter
      → IsLeft issuer (shares_of callers) card counter
  left-shares card counter left = record {
    each = λ answer on. left.each answer (of-shares card counter answer on);
    top = left.top;
    below = on-shares card counter (Refused (Below left.top)) left.below;
  }

  outcome-shares : (opening : List (Log LogItem LogHead)) (card : CardName) (counter : ℕ)
      → IsDecidedOn card counter (history_at opening (shard_of issuer card))
      ⊎ IsCallersDecidedNow issuer callers card counter
      ⊎ IsCallersLeft issuer callers card counter
      → IsDecidedOn card counter (history_at opening (shard_of issuer card))
      ⊎ IsDecidedNow issuer (shares_of callers) card counter
      ⊎ IsLeft issuer (shares_of callers) card counter
  outcome-shares opening card counter (inl before) = inl before
  outcome-shares opening card counter (inr (inl now)) = inr (inl (now-shares card counter now))
  outcome-shares opening card counter (inr (inr left)) = inr (inr (left-shares card counter left))

  pub settled-shares : (opening : List (Log LogItem LogHead)) → AreCallersSettled issuer opening callers
      → AreSettled issuer (history_at opening) (shares_of callers)
  settled-shares opening settled = record {
    no_fault = λ number index share is.
        let at = mapped-at share_of callers number share is in
        subst (λ (s : Share). slice_get s.answers index ≢ Some (Refused StoreFault)) (sym at.2)
        (settled.no_fault number index at.0 at.1);
    settled = λ number index share request answer is.
        let at = mapped-at share_of callers number share is in
        subst (λ (s : Share). IsAnswered issuer s.lines s.answers index request answer
        → IsDecidedOn (card_of request) request.atc (history_at opening (shard_of issuer (card_of request)))
        ⊎ IsDecidedNow issuer (shares_of callers) (card_of request) request.atc
        ⊎ IsLeft issuer (shares_of callers) (card_of request) request.atc) (sym at.2)
        (λ answered. outcome-shares opening (card_of request) request.atc
        (settled.settled number index at.0 request answer at.1 answered));
  }
