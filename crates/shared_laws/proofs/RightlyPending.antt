-- Each answer `Pending` is right, and only lines that pass the checks are answered `StoreFault`.
use Rattle.std.proofs.Common.{◌≡◌, ◌≢◌, ◌⊎◌, ℕ, zero, suc, ◌%◌, ◌<◌, ◌≤◌, List, [], ◌∷◌, length, take, drop, true, false, Some}
use Rattle.std.proofs.Common.{Result, Ok, Err, refl, sym, ap, ◌∙◌, subst, inl, inr, arith}
use Rattle.std.proofs.lemmas.Bool.{cases_Bool, cases_lt, eq-eqb}
use Rattle.std.proofs.lemmas.Nat.{mod_below}
use Rattle.std.proofs.lemmas.Option.{same_Some, none-some}
use Rattle.std.specs.List.{slice_get}
use Rattle.issuer_base.specs.declared.answer.Answer.{Answer}
use Rattle.issuer_base.specs.declared.answer.Answer.TheVariants.{Refused}
use Rattle.issuer_base.specs.declared.answer.Refusal.{Refusal}
use Rattle.issuer_base.specs.declared.answer.Refusal.TheVariants.{Below, Pending, StoreFault}
use Rattle.issuer_base.specs.declared.entry.Entry.TheVariants.{Decided}
use Rattle.issuer_base.specs.declared.request.Request.{Request}
use Rattle.card_history.specs.declared.decision.Asked.{Asked}
use Rattle.card_history.specs.declared.decision.Asked.TheVariants.{Decide as AsksDecision}
use Rattle.issuer_base.specs.CardNames.{CardName}
use Rattle.card_history.specs.Records.{card_of}
use Rattle.issuer_setup.specs.CardList.{number_of}
use Rattle.issuer_setup.specs.IssuerSetup.{Setup, shard_of}
use Rattle.issuer_setup.proofs.Shards.{shard_of-known}
use Rattle.line_checks.specs.Reading.{reading}
use Rattle.shared_seats.specs.Totals.{total, one_if}
use Rattle.claim_words.specs.ClaimViews.{claims_on, times, is_any}
use Rattle.turn_book.specs.declared.logs.Log.{Log}
use Rattle.turn_book.specs.Logs.{items_at}
use Rattle.shared_shards.specs.declared.logs.LogItem.{LogItem}
use Rattle.shared_shards.specs.declared.logs.LogHead.{LogHead}
use Rattle.shared_shards.specs.ShardLogs.{records_of}
use Rattle.shared_laws.specs.Authorising.{Authorises}
use Rattle.one_caller.specs.OneHistory.{IsAnswered}
use Rattle.shared_laws.specs.OpeningLogs.{is_decided}
use Rattle.one_caller.proofs.Asked.{asks-no_store, asks-no_pending}
use Rattle.shared_laws.specs.Callers.{Caller, IsCaller}
use Rattle.shared_laws.specs.Explained.{IsDecidedOn}
use Rattle.shared_laws.specs.OwnPlaces.{shows_record}
use Rattle.shared_laws.proofs.CallersAnswers.{AreCallers}
use Rattle.shared_laws.proofs.CallersAnswers.{IsCallersAnswerOn, IsCallersPending, CallersLinePasses}
use Rattle.shared_laws.proofs.CallTurns.{ShardView, SeesMore, IsTurnedAway, TakesTurn, call-turn, call-sees, calls-see}
use Rattle.shared_laws.proofs.Lists.{part-within, some-part}
use Rattle.shared_laws.proofs.ClaimSteps.{calls-found, calls-claims}
use Rattle.shared_laws.proofs.CounterRange.{counter-within}
use Rattle.shared_laws.proofs.Decisions.{one-name, numbered-decided, decided-numbered}
use Rattle.shared_laws.proofs.MoreLines.{CallAt, call-at}
use Rattle.shared_laws.proofs.PendingLines.{decision-later, unused-none, call-shown, IsLost, call-lost}

items-past : (logs : List (Log LogItem LogHead)) (shard : ℕ) → length logs ≤ shard → items_at logs shard ≡ []
items-past [] shard past = refl
items-past (log ∷ logs) zero past = absurd (omega arith)
items-past (log ∷ logs) (suc shard) past = items-past logs shard (omega arith)

take-within : {X : Type 0} (xs : List X) (count place : ℕ) (x : X) → place < count → slice_get xs place ≡ Some x → slice_get (take count xs) place ≡ Some x
take-within [] count place x below is = absurd (none-some x is)
take-within (y ∷ xs) zero place x below is = absurd (omega arith)
take-within (y ∷ xs) (suc count) zero x below is = is
take-within (y ∷ xs) (suc count) (suc place) x below is = take-within xs count place x (omega arith) is

taken-within : {X : Type 0} (xs : List X) (count place : ℕ) (x : X) → slice_get (take count xs) place ≡ Some x → slice_get xs place ≡ Some x
taken-within [] zero place x is = is
taken-within [] (suc count) place x is = is
taken-within (y ∷ xs) zero place x is = absurd (none-some x is)
taken-within (y ∷ xs) (suc count) zero x is = is
taken-within (y ∷ xs) (suc count) (suc place) x is = taken-within xs count place x is

module _ (issuer : Setup) (opening logs : List (Log LogItem LogHead)) (callers : List Caller) (are : AreCallers issuer opening logs callers) where
  -- what some caller claimed is a line's that isn't told that its ATC is pending
  claimed-elsewhere : (request : Request) (card : ℕ) → number_of (card_of request) issuer.cards ≡ Some card
      → 0 < total (λ caller. claims_on is_any card request.atc caller.claims_now.claims) callers
      → (answer : Answer) × IsCallersAnswerOn issuer callers (card_of request) request.atc answer × (answer ≢ Refused Pending)
  claimed-elsewhere request card number_is some =
      let (number, caller, caller_is, here) = some-part (λ (caller : Caller). claims_on is_any card request.atc caller.claims_now.claims) callers some in
      let one = are.each number caller caller_is in
      elim (calls-claims issuer caller.lines caller.answers caller.claims caller.logs caller.claims_now caller.logs_now one.calls card request.atc) [
        | inl same ↦ let none = ap (claims_on is_any card request.atc) one.no_claims in absurd (omega (arith, here, same, none))
        | inr has ↦
            let on : IsCallersAnswerOn issuer callers (card_of request) request.atc has.answer = record {
              number = number;
              caller = caller;
              caller_is = caller_is;
              index = has.index;
              request = has.request;
              answered = has.answered;
              card_is = one-name issuer.cards (card_of has.request) (card_of request) card has.number_is number_is;
              counter_is = has.on_counter;
            } in
            (has.answer, on, has.not_pending)
      ]

  module _ (number : ℕ) (caller : Caller) (caller_is : slice_get callers number ≡ Some caller) (index : ℕ)
      (is : slice_get caller.answers index ≡ Some (Refused Pending)) where
    one : IsCaller issuer opening caller
    one = are.each number caller caller_is

    at : CallAt issuer caller.lines caller.answers caller.claims caller.logs caller.claims_now caller.logs_now index (Refused Pending)
    at = call-at issuer caller.lines caller.answers caller.claims caller.logs caller.claims_now caller.logs_now one.calls index (Refused Pending) is

    lost : IsLost issuer (reading issuer at.line) at.logs_before at.claims_after
    lost = call-lost issuer (reading issuer at.line) at.claims_before at.logs_before at.claims_after at.logs_after (asks-no_pending issuer at.line) at.call

    home : ℕ
    home = shard_of issuer (card_of lost.request)

    earlier-sees : SeesMore caller.logs at.logs_before
    earlier-sees = calls-see issuer (take index caller.lines) (take index caller.answers) caller.claims caller.logs at.claims_before at.logs_before at.before

    -- no decision stood on the ATC in what the caller had seen
    unseen : IsDecidedOn (card_of lost.request) lost.request.atc (records_of (items_at at.logs_before.seen home)) → ⊥
    unfolding home
    unseen has =
        unused-none (records_of lost.between) lost.request lost.unused
        (decision-later (card_of lost.request) lost.request.atc (items_at at.logs_before.seen home) lost.between lost.front has)

    unopened : IsDecidedOn (card_of lost.request) lost.request.atc (records_of (items_at opening home)) → ⊥
    unfolding home
    unopened has =
        elim (cases_lt home (length opening)) [
          | inl below ↦
              let first : IsDecidedOn (card_of lost.request) lost.request.atc (records_of (items_at caller.logs.seen home)) =
              subst (λ (logs : List (Log LogItem LogHead)). IsDecidedOn (card_of lost.request) lost.request.atc (records_of (items_at logs home)))
              (sym one.opened) has in
              let within : home < length caller.logs.seen = subst (λ (logs : List (Log LogItem LogHead)). home < length logs) (sym one.opened) below in
              unseen (decision-later (card_of lost.request) lost.request.atc (items_at caller.logs.seen home) (items_at at.logs_before.seen home)
              (earlier-sees.fronts home within) first)
          | inr past ↦
              let none = ap (λ (items : List LogItem). slice_get (records_of items) has.place) (items-past opening home (omega (arith, past))) in
              none-some (Decided has.request has.reply) (sym none ∙ has.record_is)
        ]

    elsewhere : (answer : Answer) × IsCallersAnswerOn issuer callers (card_of lost.request) lost.request.atc answer × (answer ≢ Refused Pending)
    unfolding home
    elsewhere =
        let within = counter-within issuer at.line lost.request lost.says_is in
        let later = calls-found issuer (drop (suc index) caller.lines) (drop (suc index) caller.answers) at.claims_after at.logs_after caller.claims_now
        caller.logs_now at.after lost.card lost.request.atc in
        let part = part-within (λ (caller : Caller). times lost.card lost.request.atc caller.claims_now.found) callers number caller caller_is in
        let here = lost.found in
        let some = are.found lost.card lost.request.atc within (omega (arith, later, part, here)) in
        elim (cases_Bool (is_decided issuer (items_at opening (lost.card % issuer.shards)) lost.card lost.request.atc)) [
          | inl recorded ↦
              let opened : List LogItem = items_at opening (lost.card % issuer.shards) in
              let has = numbered-decided issuer lost.card lost.request.atc (card_of lost.request) (records_of opened) lost.number_is
              (decided-numbered issuer lost.card lost.request.atc opened recorded) in
              let at_home = shard_of-known issuer (card_of lost.request) lost.card lost.number_is in
              absurd (unopened (subst (λ (shard : ℕ). IsDecidedOn (card_of lost.request) lost.request.atc (records_of (items_at opening shard)))
              (sym at_home) has))
          | inr none ↦
              let nothing = ap one_if none in
              claimed-elsewhere lost.request lost.card lost.number_is (omega (arith, some, nothing))
        ]

    unshown : (earlier : ℕ) (other : Request) (answer : Answer) → earlier < index
        → IsAnswered issuer caller.lines caller.answers earlier other answer → card_of other ≡ card_of lost.request → other.atc ≡ lost.request.atc
        → shows_record answer ≡ false
    unfolding home
    unshown earlier other answer before answered same_card same_counter =
        elim (cases_Bool (shows_record answer)) [
          | inl shows ↦
              let first = call-at issuer (take index caller.lines) (take index caller.answers) caller.claims caller.logs at.claims_before at.logs_before
              at.before earlier answer (take-within caller.answers index earlier answer before answered.answer_is) in
              let line_is : first.line ≡ answered.line =
              same_Some first.line answered.line (sym (taken-within caller.lines index earlier first.line first.line_is) ∙ answered.line_is) in
              let says : reading issuer first.line ≡ Ok (AsksDecision other) = ap (reading issuer) line_is ∙ answered.request_is in
              let sees = calls-see issuer (take earlier (take index caller.lines)) (take earlier (take index caller.answers)) caller.claims caller.logs
              first.claims_before first.logs_before first.before in
              let home_is = shard_of-known issuer (card_of lost.request) lost.card lost.number_is in
              let below = mod_below lost.card issuer.shards are.some in
              let count = are.count_is in
              let opened = ap (λ (logs : List (Log LogItem LogHead)). length logs) one.opened in
              let seen_count = sees.count_is in
              let within : home < length first.logs_before.seen = omega (arith, home_is, below, count, opened, seen_count) in
              let at_home : shard_of issuer (card_of other) ≡ home = ap (shard_of issuer) same_card in
              let has = call-shown issuer first.claims_before first.logs_before answer first.claims_after first.logs_after other
              (subst (λ (shard : ℕ). shard < length first.logs_before.seen) (sym at_home) within) shows
              (subst (λ says. Authorises issuer says first.claims_before first.logs_before answer first.claims_after first.logs_after) says first.call) in
              let here : IsDecidedOn (card_of lost.request) lost.request.atc (records_of (items_at first.logs_after.seen home)) =
              subst (λ (name : CardName). IsDecidedOn name lost.request.atc (records_of (items_at first.logs_after.seen (shard_of issuer name)))) same_card
              (subst (λ (counter : ℕ). IsDecidedOn (card_of other) counter (records_of (items_at first.logs_after.seen (shard_of issuer (card_of other)))))
              same_counter has) in
              let turn =
              call-turn issuer (reading issuer first.line) first.claims_before first.logs_before answer first.claims_after first.logs_after first.call in
              let then = call-sees issuer (reading issuer first.line) first.logs_before answer first.logs_after turn in
              let then_count = then.count_is in
              let later = calls-see issuer (drop (suc earlier) (take index caller.lines)) (drop (suc earlier) (take index caller.answers)) first.claims_after
              first.logs_after at.claims_before at.logs_before first.after in
              absurd (unseen (decision-later (card_of lost.request) lost.request.atc (items_at first.logs_after.seen home) (items_at at.logs_before.seen home)
              (later.fronts home (omega (arith, within, then_count))) here))
          | inr none ↦ none
        ]

    pub rightly-pending : IsCallersPending issuer opening callers caller index
    unfolding home
    rightly-pending = record {
      request = lost.request;
      answered = record { line = at.line; line_is = at.line_is; request_is = lost.says_is; answer_is = is };
      elsewhere = elsewhere;
      unopened = unopened;
      unshown = unshown;
    }

-- a call that is told that the store failed is for a line that passes
told-passes : (issuer : Setup) (line : List ℕ) (says : Result Asked Refusal) (before after : ShardView) → reading issuer line ≡ says
    → IsTurnedAway says before (Refused StoreFault) after ⊎ TakesTurn issuer says before (Refused StoreFault) after → (asked : Asked) × (says ≡ Ok asked)
told-passes issuer line (Ok asked) before after read turn = (asked, refl)
told-passes issuer line (Err refusal) before after read (inl away) =
    let same : away.refusal ≡ StoreFault = let e : Refused StoreFault ≡ Refused away.refusal = away.answer_is in cc in
    elim away.why [
      | inl why ↦
          let its : Err refusal ≡ Err StoreFault = why ∙ ap (λ (refusal : Refusal). Err refusal) same in
          absurd (asks-no_store issuer line (read ∙ its))
      | inr old ↦ let other : StoreFault ≡ Below old.0 = sym same ∙ old.1 in absurd (cc)
    ]
told-passes issuer line (Err refusal) before after read (inr turn) =
    let here = turn.home turn.shard in
    let there = eq-eqb turn.shard turn.shard refl in
    let no_shard : false ≡ true = here ∙ there in
    absurd (cc)

pub fault-passes : (issuer : Setup) (opening : List (Log LogItem LogHead)) (caller : Caller) → IsCaller issuer opening caller → (index : ℕ)
    → slice_get caller.answers index ≡ Some (Refused StoreFault) → CallersLinePasses issuer caller index
fault-passes issuer opening caller one index is =
    let at = call-at issuer caller.lines caller.answers caller.claims caller.logs caller.claims_now caller.logs_now one.calls index (Refused StoreFault) is in
    let turn = call-turn issuer (reading issuer at.line) at.claims_before at.logs_before (Refused StoreFault) at.claims_after at.logs_after at.call in
    let passes = told-passes issuer at.line (reading issuer at.line) at.logs_before at.logs_after refl turn in
    record { line = at.line; line_is = at.line_is; asked = passes.0; asked_is = passes.1 }
