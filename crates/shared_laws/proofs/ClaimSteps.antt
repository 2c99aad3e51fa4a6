-- How one call changes its caller's claims, and how calls one after another do: no claim is lost, and a claim is made
-- only for a line that isn't answered `Pending`.
use Rattle.std.proofs.Common.{◌≡◌, ◌≢◌, ◌⊎◌, ℕ, suc, ◌≤◌, List, [], ◌∷◌, true, false, ◌&&◌, Option, None, Some}
use Rattle.std.proofs.Common.{Result, Ok, Err, refl, sym, ap, ◌∙◌, subst, inl, inr, arith}
use Rattle.issuer_base.specs.declared.answer.Answer.{Answer}
use Rattle.issuer_base.specs.declared.answer.Answer.TheVariants.{Refused}
use Rattle.issuer_base.specs.declared.answer.Refusal.{Refusal}
use Rattle.issuer_base.specs.declared.answer.Refusal.TheVariants.{Pending}
use Rattle.issuer_base.specs.declared.answer.Reply.{Reply}
use Rattle.issuer_base.specs.declared.entry.Entry.{Entry}
use Rattle.issuer_base.specs.declared.request.Request.{Request}
use Rattle.card_history.specs.declared.decision.Asked.{Asked}
use Rattle.card_history.specs.declared.decision.Asked.TheVariants.{Decide as AsksDecision, Queue as AsksQueue, Status as AsksStatus}
use Rattle.card_history.specs.Records.{card_of}
use Rattle.issuer_setup.specs.CardList.{number_of}
use Rattle.issuer_setup.specs.IssuerSetup.{Setup, shard_of}
use Rattle.line_checks.specs.Reading.{reading}
use Rattle.shard_book.specs.Replying.{reply_to}
use Rattle.shared_seats.specs.Totals.{one_if}
use Rattle.claim_words.specs.declared.view.ClaimView.{ClaimView}
use Rattle.claim_words.specs.declared.claim_words.Claim.TheVariants.{Won, Lost}
use Rattle.claim_words.specs.ClaimViews.{is_any, claims_on, times, after_claim, after_top, settled}
use Rattle.claim_words.proofs.ClaimCounts.{pair_cases, pair-other, any-settled}
use Rattle.shard_book.specs.Answering.{AnswersClaimed}
use Rattle.shared_shards.specs.ShardLogs.{records_of}
use Rattle.shared_shards.specs.Turned.{log_after}
use Rattle.shared_laws.specs.declared.checked.Checked.{Checked}
use Rattle.line_checks.specs.declared.checked.CheckedOrder.TheVariants.{Command as IsCommand, Status as IsStatus}
use Rattle.shared_laws.specs.declared.checked.Checked.TheVariants.{Decide, Order}
use Rattle.shared_laws.specs.Authorising.{EndsIn, Authorises}
use Rattle.shared_laws.specs.Finishes.{standing_by}
use Rattle.one_caller.specs.OneHistory.{IsAnswered}
use Rattle.shared_laws.specs.PreChecks.{asked_of, PreChecks}
use Rattle.shared_laws.specs.Callers.{AuthorisesAll}
use Rattle.shared_laws.proofs.CallTurns.{ShardView}

-- the line is a request on this ATC of the card with this number, and isn't told that it is pending
pub record IsWinner (issuer : Setup) (says : Result Asked Refusal) (answer : Answer) (card counter : ℕ) : Type 0 where
  pub request : Request
  pub says_is : says ≡ Ok (AsksDecision request)
  pub number_is : number_of (card_of request) issuer.cards ≡ Some card
  pub on_counter : request.atc ≡ counter
  pub not_pending : answer ≢ Refused Pending

-- the pairs that were found stay, and a claim more is a winner's
record ClaimStep (issuer : Setup) (says : Result Asked Refusal) (before : ClaimView) (answer : Answer) (after : ClaimView) : Type 0 where
  found : (card counter : ℕ) → times card counter before.found ≤ times card counter after.found
  claims : (card counter : ℕ) → (claims_on is_any card counter after.claims ≡ claims_on is_any card counter before.claims)
      ⊎ IsWinner issuer says answer card counter

kept-step : (issuer : Setup) (says : Result Asked Refusal) (before : ClaimView) (answer : Answer) (after : ClaimView)
    → ((card counter : ℕ) → times card counter before.found ≤ times card counter after.found) → after.claims ≡ before.claims
    → ClaimStep issuer says before answer after
kept-step issuer says before answer after found claims = record {
  found = found;
  claims = λ card counter. inl (ap (claims_on is_any card counter) claims);
}

same-step : (issuer : Setup) (says : Result Asked Refusal) (before : ClaimView) (answer : Answer) (after : ClaimView) → after ≡ before
    → ClaimStep issuer says before answer after
same-step issuer says before answer after same =
    kept-step issuer says before answer after
    (λ card counter. let here = ap (λ (view : ClaimView). times card counter view.found) same in omega (arith, here))
    (ap (λ (view : ClaimView). view.claims) same)

top-found : (card : ℕ) (top : Option ℕ) (view : ClaimView) → (after_top card top view).found ≡ view.found
top-found card None view = refl
top-found card (Some told) view = refl

top-claims : (card : ℕ) (top : Option ℕ) (view : ClaimView) → (after_top card top view).claims ≡ view.claims
top-claims card None view = refl
top-claims card (Some told) view = refl

-- a pair more in a list
one-more : (card counter : ℕ) (pair : ℕ × ℕ) (pairs : List (ℕ × ℕ)) → times card counter pairs ≤ times card counter (pair ∷ pairs)
one-more card counter pair pairs = omega arith

pub won-answers : (shard : ℕ) (reply : List Entry → Request → Reply) (old : List Entry) (request : Request) (answer : Answer) (new : List Entry)
    → AnswersClaimed shard reply true old request answer new → answer ≢ Refused Pending
won-answers shard reply old request answer new changes is =
    let told : AnswersClaimed shard reply true old request (Refused Pending) new =
    subst (λ (answer : Answer). AnswersClaimed shard reply true old request answer new) is changes in
    let lost : true ≡ false = told.0 in
    cc

module _ (issuer : Setup) (before : ClaimView) (logs : ShardView) (answer : Answer) (after : ClaimView) (logs_now : ShardView) where
  -- a request whose claim was won
  won-step : (request : Request) (card : ℕ) (top : Option ℕ) → number_of (card_of request) issuer.cards ≡ Some card → answer ≢ Refused Pending
      → after ≡ settled (standing_by answer) card request.atc (after_claim Won card request.atc (after_top card top before))
      → ClaimStep issuer (Ok (AsksDecision request)) before answer after
  won-step request card top number_is other after_is =
      subst (ClaimStep issuer (Ok (AsksDecision request)) before answer) (sym after_is) (record {
        found = λ one counter. let same = ap (times one counter) (top-found card top before) in omega (arith, same);
        claims = λ one counter. elim (pair_cases one counter card request.atc) [
          | inl both ↦ inr (record {
            request = request;
            says_is = refl;
            number_is = number_is ∙ ap Some (sym both.0);
            on_counter = sym both.1;
            not_pending = other;
          })
          | inr apart ↦
              let claims = (after_claim Won card request.atc (after_top card top before)).claims in
              let kept = any-settled (standing_by answer) card request.atc one counter claims in
              let none = ap (λ is. one_if (is && true)) (pair-other one counter card request.atc apart) in
              let same = ap (claims_on is_any one counter) (top-claims card top before) in
              inl (omega (arith, kept, none, same))
        ];
      })

  lost-step : (request : Request) (card : ℕ) (top : Option ℕ)
      → after ≡ after_claim Lost card request.atc (after_top card top before) → ClaimStep issuer (Ok (AsksDecision request)) before answer after
  lost-step request card top after_is =
      subst (ClaimStep issuer (Ok (AsksDecision request)) before answer) (sym after_is)
      (kept-step issuer (Ok (AsksDecision request)) before answer (after_claim Lost card request.atc (after_top card top before))
      (λ one counter. let same = ap (times one counter) (top-found card top before) in
      let more = one-more one counter (card, request.atc) (after_top card top before).found in omega (arith, same, more))
      (top-claims card top before))

  top-step : (says : Result Asked Refusal) (card : ℕ) (top : Option ℕ) → after ≡ after_top card top before → ClaimStep issuer says before answer after
  top-step says card top after_is =
      subst (ClaimStep issuer says before answer) (sym after_is)
      (kept-step issuer says before answer (after_top card top before)
      (λ one counter. let same = ap (times one counter) (top-found card top before) in omega (arith, same))
      (top-claims card top before))

  refused-step : (says : Result Asked Refusal) (refusal : Refusal)
      → PreChecks issuer says before (Err refusal) after → ClaimStep issuer says before answer after
  refused-step (Err first) refusal (same, kept) = same-step issuer (Err first) before answer after kept
  refused-step (Ok (AsksDecision request)) refusal (card, number_is, checks) =
      let (told, top_is, bounded, below, refusal_is, kept) = checks.claims in top-step (Ok (AsksDecision request)) card checks.top kept
  refused-step (Ok (AsksQueue pan psn command)) refusal (ok, kept) = same-step issuer (Ok (AsksQueue pan psn command)) before answer after kept
  refused-step (Ok (AsksStatus pan psn status)) refusal (ok, kept) = same-step issuer (Ok (AsksStatus pan psn status)) before answer after kept

  finished-step : (checked : Checked) (between : ClaimView) → PreChecks issuer (Ok (asked_of checked)) before (Ok checked) between
      → EndsIn issuer (Ok (asked_of checked)) (Ok checked) between logs answer after logs_now → ClaimStep issuer (Ok (asked_of checked)) before answer after
  finished-step (Decide found Won) between (card, number_is, checks) (says_is, turn, claims_are, won) =
      let (in_window, card_is, kept, new) = checks.claims in
      won-step found.request card checks.top number_is
      (won-answers (shard_of issuer (card_of found.request)) (reply_to issuer) (records_of turn.between) found.request answer
      (records_of (log_after turn.between turn.added)) turn.changes)
      (claims_are
      ∙ ap (λ (view : ClaimView). settled (standing_by answer) found.card found.request.atc view) kept
      ∙ ap (λ (here : ℕ). settled (standing_by answer) here found.request.atc (after_claim Won card found.request.atc (after_top card checks.top before)))
      card_is)
  finished-step (Decide found Lost) between (card, number_is, checks) (says_is, turn, claims_are, won) =
      let (in_window, card_is, kept, new) = checks.claims in
      lost-step found.request card checks.top (claims_are ∙ kept)
  finished-step (Order (IsCommand found)) between (ok, kept) (says_is, turn, claims_are, won) =
      same-step issuer (Ok (asked_of (Order (IsCommand found)))) before answer after (claims_are ∙ kept)
  finished-step (Order (IsStatus found)) between (ok, kept) (says_is, turn, claims_are, won) =
      same-step issuer (Ok (asked_of (Order (IsStatus found)))) before answer after (claims_are ∙ kept)

ended-step : (issuer : Setup) (says : Result Asked Refusal) (before : ClaimView) (logs : ShardView) (answer : Answer) (after : ClaimView) (logs_now : ShardView)
    (checked : Result Checked Refusal) (between : ClaimView) → PreChecks issuer says before checked between
    → EndsIn issuer says checked between logs answer after logs_now → ClaimStep issuer says before answer after
ended-step issuer says before logs answer after logs_now (Err refusal) between checks (answer_is, claims_are, logs_are) =
    refused-step issuer before logs answer after logs_now says refusal
    (subst (λ (view : ClaimView). PreChecks issuer says before (Err refusal) view) (sym claims_are) checks)
ended-step issuer says before logs answer after logs_now (Ok checked) between checks ends =
    let says_is = ends.0 in
    subst (λ (says : Result Asked Refusal). ClaimStep issuer says before answer after) says_is
    (finished-step issuer before logs answer after logs_now checked between
    (subst (λ (says : Result Asked Refusal). PreChecks issuer says before (Ok checked) between) (sym says_is) checks)
    (refl, ends.1, ends.2, ends.3))

call-step : (issuer : Setup) (says : Result Asked Refusal) (before : ClaimView) (logs : ShardView) (answer : Answer) (after : ClaimView) (logs_now : ShardView)
    → Authorises issuer says before logs answer after logs_now → ClaimStep issuer says before answer after
call-step issuer says before logs answer after logs_now call =
    ended-step issuer says before logs answer after logs_now call.checked call.between call.checks call.ends

-- ---- one call after another

-- what was found stays found
pub calls-found : (issuer : Setup) (lines : List (List ℕ)) (answers : List Answer)
    (claims : ClaimView) (logs : ShardView) (claims_now : ClaimView) (logs_now : ShardView)
    → AuthorisesAll issuer lines answers claims logs claims_now logs_now → (card counter : ℕ)
    → times card counter claims.found ≤ times card counter claims_now.found
calls-found issuer [] [] claims logs claims_now logs_now (claims_are, logs_are) card counter =
    let same = ap (λ (view : ClaimView). times card counter view.found) claims_are in omega (arith, same)
calls-found issuer [] (answer ∷ answers) claims logs claims_now logs_now calls card counter = absurd calls
calls-found issuer (line ∷ lines) [] claims logs claims_now logs_now calls card counter = absurd calls
calls-found issuer (line ∷ lines) (answer ∷ answers) claims logs claims_now logs_now (next_claims, next_logs, call, rest) card counter =
    let step = call-step issuer (reading issuer line) claims logs answer next_claims next_logs call in
    let one = step.found card counter in
    let others = calls-found issuer lines answers next_claims next_logs claims_now logs_now rest card counter in
    omega (arith, one, others)

-- some line of these is a request on this ATC of the card with this number, and isn't told that it is pending
pub record HasWinner (issuer : Setup) (lines : List (List ℕ)) (answers : List Answer) (card counter : ℕ) : Type 0 where
  pub index : ℕ
  pub request : Request
  pub answer : Answer
  pub answered : IsAnswered issuer lines answers index request answer
  pub number_is : number_of (card_of request) issuer.cards ≡ Some card
  pub on_counter : request.atc ≡ counter
  pub not_pending : answer ≢ Refused Pending

later-winner : (issuer : Setup) (line : List ℕ) (lines : List (List ℕ)) (answer : Answer) (answers : List Answer) (card counter : ℕ)
    → HasWinner issuer lines answers card counter → HasWinner issuer (line ∷ lines) (answer ∷ answers) card counter
later-winner issuer line lines answer answers card counter has = record {
  index = suc has.index;
  request = has.request;
  answer = has.answer;
  answered = record { line = has.answered.line; line_is = has.answered.line_is; request_is = has.answered.request_is; answer_is = has.answered.answer_is };
  number_is = has.number_is;
  on_counter = has.on_counter;
  not_pending = has.not_pending;
}

-- a claim that stands at last stood at first, or is a winner's
pub calls-claims : (issuer : Setup) (lines : List (List ℕ)) (answers : List Answer)
    (claims : ClaimView) (logs : ShardView) (claims_now : ClaimView) (logs_now : ShardView)
    → AuthorisesAll issuer lines answers claims logs claims_now logs_now → (card counter : ℕ)
    → (claims_on is_any card counter claims_now.claims ≡ claims_on is_any card counter claims.claims) ⊎ HasWinner issuer lines answers card counter
calls-claims issuer [] [] claims logs claims_now logs_now (claims_are, logs_are) card counter =
    inl (ap (λ (view : ClaimView). claims_on is_any card counter view.claims) claims_are)
calls-claims issuer [] (answer ∷ answers) claims logs claims_now logs_now calls card counter = absurd calls
calls-claims issuer (line ∷ lines) [] claims logs claims_now logs_now calls card counter = absurd calls
calls-claims issuer (line ∷ lines) (answer ∷ answers) claims logs claims_now logs_now (next_claims, next_logs, call, rest) card counter =
    let step = call-step issuer (reading issuer line) claims logs answer next_claims next_logs call in
    elim (step.claims card counter) [
      | inl same ↦
          elim (calls-claims issuer lines answers next_claims next_logs claims_now logs_now rest card counter) [
            | inl others ↦ inl (others ∙ same)
            | inr has ↦ inr (later-winner issuer line lines answer answers card counter has)
          ]
      | inr winner ↦ inr (record {
        index = 0;
        request = winner.request;
        answer = answer;
        answered = record { line = line; line_is = refl; request_is = winner.says_is; answer_is = refl };
        number_is = winner.number_is;
        on_counter = winner.on_counter;
        not_pending = winner.not_pending;
      })
    ]
