-- The kept claims of a caller are decided records, and what it read from tops stays.
use Rattle.std.proofs.Common.{◌≡◌, ◌⊎◌, ◌≤◌, ◌<◌, ℕ, ◌%◌, List, [], ◌∷◌, length, Bool, true}
use Rattle.std.proofs.Common.{Option, None, Some, Result, Ok, Err, refl, sym, ap, subst, ◌∙◌, inl, inr, arith}
use Rattle.std.specs.List.{slice_get}
use Rattle.issuer_base.specs.declared.answer.Answer.{Answer}
use Rattle.issuer_base.specs.declared.answer.Answer.TheVariants.{Fresh, Kept as AnsweredKept, Queued, Set, Refused}
use Rattle.issuer_base.specs.declared.answer.Refusal.{Refusal}
use Rattle.issuer_base.specs.declared.answer.Reply.{Reply}
use Rattle.issuer_base.specs.declared.entry.Entry.{Entry}
use Rattle.issuer_base.specs.declared.entry.Entry.TheVariants.{Decided}
use Rattle.issuer_base.specs.declared.request.Request.{Request}
use Rattle.card_history.specs.declared.decision.Asked.{Asked}
use Rattle.card_history.specs.declared.decision.Asked.TheVariants.{Decide, Queue, Status}
use Rattle.card_history.specs.Records.{card_of}
use Rattle.card_history.proofs.LongerHistories.{slice_get-push}
use Rattle.issuer_setup.specs.CardList.{number_of}
use Rattle.issuer_setup.specs.IssuerSetup.{Setup, shard_of}
use Rattle.issuer_setup.proofs.Shards.{shard_of-known}
use Rattle.shard_book.specs.Replying.{reply_to}
use Rattle.line_checks.specs.Reading.{reading}
use Rattle.claim_words.specs.declared.claim_words.Claim.{Claim}
use Rattle.claim_words.specs.declared.claim_words.Claim.TheVariants.{Won, Lost}
use Rattle.claim_words.specs.declared.view.ClaimView.{ClaimView}
use Rattle.claim_words.specs.declared.view.Standing.TheVariants.{Kept, GivenBack}
use Rattle.claim_words.specs.ClaimViews.{is_kept, claims_on, times, after_claim, after_top, with_claim, settled}
use Rattle.claim_words.proofs.ClaimCounts.{pair_cases, claims-with_claim, claims-with_claim_other, claims-settled_other, kept-given_back}
use Rattle.turn_book.specs.declared.view.TurnView.{TurnView}
use Rattle.shard_book.specs.Answering.{AnswersClaimed}
use Rattle.shared_shards.specs.declared.logs.LogItem.{LogItem}
use Rattle.shared_shards.specs.declared.logs.LogHead.{LogHead}
use Rattle.shard_book.specs.Histories.{GoesOn}
use Rattle.shared_laws.specs.Authorising.{EndsIn, Authorises}
use Rattle.shared_laws.specs.Finishes.{FinishesInTurn, claims_after, standing_by}
use Rattle.shared_laws.specs.PreChecks.{asked_of, PreChecks, Claims}
use Rattle.shared_laws.specs.declared.checked.Checked.{Checked}
use Rattle.shared_laws.specs.declared.checked.Checked.TheVariants.{Decide as Decides, Order as Orders}
use Rattle.shared_laws.specs.Callers.{AuthorisesAll}
use Rattle.shared_laws.specs.Explained.{history_at, SeesTurn}
use Rattle.shared_laws.proofs.Decisions.{IsNumbered, numbered-stays}
use Rattle.shared_laws.proofs.Seen.{IsWhole, turn-sees, home-there, line-sees, lines-in_order}

-- ---- what a check of a line does to claims

top-claims : (card : ℕ) (top : Option ℕ) (view : ClaimView) → (after_top card top view).claims ≡ view.claims
top-claims card None view = refl
top-claims card (Some told) view = refl

pub top-times : (card : ℕ) (top : Option ℕ) (view : ClaimView) (other counter : ℕ)
    → times other counter view.tops ≤ times other counter (after_top card top view).tops
top-times card None view other counter = omega arith
top-times card (Some told) view other counter = omega arith

open-unkept : (card counter : ℕ) (view : ClaimView) (other_card other : ℕ)
    → claims_on is_kept other_card other (with_claim card counter view).claims ≡ claims_on is_kept other_card other view.claims
open-unkept card counter view other_card other =
    elim (pair_cases other_card other card counter) [
      | inl same ↦
          let P : ℕ → ℕ → Type 0 = λ other_card other.
          claims_on is_kept other_card other (with_claim card counter view).claims ≡ claims_on is_kept other_card other view.claims in
          subst (λ (other_card : ℕ). P other_card other) (sym same.0)
          (subst (λ (other : ℕ). P card other) (sym same.1) (omega (arith, claims-with_claim is_kept card counter view)))
      | inr apart ↦ claims-with_claim_other is_kept card counter view other_card other apart
    ]

claim-unkept : (claim : Claim) (card counter : ℕ) (view : ClaimView) (other_card other : ℕ)
    → claims_on is_kept other_card other (after_claim claim card counter view).claims ≡ claims_on is_kept other_card other view.claims
claim-unkept Won card counter view other_card other = open-unkept card counter view other_card other
claim-unkept Lost card counter view other_card other = refl

claim-tops : (claim : Claim) (card counter : ℕ) (view : ClaimView) → (after_claim claim card counter view).tops ≡ view.tops
claim-tops Won card counter view = refl
claim-tops Lost card counter view = refl

-- no claim is kept by a check, and no top is forgotten
record IsChecked (before after : ClaimView) : Type 0 where
  kept : (card counter : ℕ) → claims_on is_kept card counter after.claims ≡ claims_on is_kept card counter before.claims
  tops : (card counter : ℕ) → times card counter before.tops ≤ times card counter after.tops

checked-same : (before after : ClaimView) → after ≡ before → IsChecked before after
checked-same before after same = record {
  kept = λ card counter. ap (λ (view : ClaimView). claims_on is_kept card counter view.claims) same;
  tops = λ card counter. omega (arith, ap (λ (view : ClaimView). times card counter view.tops) same);
}

claims-checked : (card counter : ℕ) (top : Option ℕ) (before : ClaimView) (result : Result Checked Refusal) (after : ClaimView)
    → Claims card counter top (after_top card top before) result after → IsChecked before after
claims-checked card counter top before (Err refusal) after (told, top_is, bounded, below, refusal_is, after_is) =
    let seen : ClaimView = after_top card top before in record {
      kept = λ other_card other. ap (λ (view : ClaimView). claims_on is_kept other_card other view.claims) after_is
          ∙ ap (claims_on is_kept other_card other) (top-claims card top before);
      tops = λ other_card other. omega (
        arith,
        ap (λ (view : ClaimView). times other_card other view.tops) after_is,
        top-times card top before other_card other,
      );
    }
claims-checked card counter top before (Ok (Decides found claim)) after (above, card_is, after_is, new) =
    let seen : ClaimView = after_top card top before in record {
      kept = λ other_card other. ap (λ (view : ClaimView). claims_on is_kept other_card other view.claims) after_is
          ∙ claim-unkept claim card counter seen other_card other ∙ ap (claims_on is_kept other_card other) (top-claims card top before);
      tops = λ other_card other. omega (
        arith,
        ap (λ (view : ClaimView). times other_card other view.tops) after_is,
        ap (times other_card other) (claim-tops claim card counter seen),
        top-times card top before other_card other,
      );
    }
claims-checked card counter top before (Ok (Orders found)) after never = absurd never

pre-checked : (issuer : Setup) (says : Result Asked Refusal) (before : ClaimView) (result : Result Checked Refusal) (after : ClaimView)
    → PreChecks issuer says before result after → IsChecked before after
pre-checked issuer (Err refusal) before result after checks = checked-same before after checks.1
pre-checked issuer (Ok (Decide request)) before result after (card, number_is, check) =
    claims-checked card request.atc check.top before result after check.claims
pre-checked issuer (Ok (Queue pan psn command)) before result after checks = checked-same before after checks.1
pre-checked issuer (Ok (Status pan psn status)) before result after checks = checked-same before after checks.1

-- a request is claimed by the number of its card
found-number : (issuer : Setup) (says : Result Asked Refusal) (before after : ClaimView) (claim : Claim)
    → (found : _) → PreChecks issuer says before (Ok (Decides found claim)) after → Ok (asked_of (Decides found claim)) ≡ says
    → number_of (card_of found.request) issuer.cards ≡ Some found.card
found-number issuer (Err refusal) before after claim found checks says_is = absurd (cc)
found-number issuer (Ok (Decide request)) before after claim found (card, number_is, check) says_is =
    let same : found.request ≡ request = let e : Ok (Decide found.request) ≡ Ok (Decide request) = says_is in cc in
    let claimed = check.claims in
    ap (λ (request : Request). number_of (card_of request) issuer.cards) same ∙ number_is ∙ ap Some (sym claimed.1)
found-number issuer (Ok (Queue pan psn command)) before after claim found checks says_is = absurd (cc)
found-number issuer (Ok (Status pan psn status)) before after claim found checks says_is = absurd (cc)

-- ---- what the end of a call does to claims

-- each kept claim was kept before, or is a decision that the caller has seen
abbrev pub KeepsMore : Setup → ClaimView → ClaimView → TurnView LogItem LogHead → Type 0
KeepsMore issuer before after logs = (card counter : ℕ) → 0 < claims_on is_kept card counter after.claims
    → (0 < claims_on is_kept card counter before.claims) ⊎ IsNumbered issuer card counter (history_at logs.seen (card % issuer.shards))

keeps-same : (issuer : Setup) (before after : ClaimView) (logs : TurnView LogItem LogHead) → after ≡ before → KeepsMore issuer before after logs
keeps-same issuer before after logs same card counter some =
    inl (omega (arith, ap (λ (view : ClaimView). claims_on is_kept card counter view.claims) same))

back-keeps : (issuer : Setup) (number counter : ℕ) (view : ClaimView) (logs : TurnView LogItem LogHead)
    → KeepsMore issuer view (settled GivenBack number counter view) logs
back-keeps issuer number counter view logs card other some =
    elim (pair_cases card other number counter) [
      | inl same ↦
          let P : ℕ → ℕ → Type 0 = λ card other.
          claims_on is_kept card other (settled GivenBack number counter view).claims ≡ claims_on is_kept card other view.claims in
          let count : P card other =
          subst (λ (card : ℕ). P card other) (sym same.0) (subst (λ (other : ℕ). P number other) (sym same.1) (kept-given_back number counter view.claims)) in
          inl (omega (arith, count))
      | inr apart ↦ inl (omega (arith, claims-settled_other number counter is_kept GivenBack card other apart view.claims))
    ]

kept-keeps : (issuer : Setup) (number counter : ℕ) (view : ClaimView) (logs : TurnView LogItem LogHead)
    → IsNumbered issuer number counter (history_at logs.seen (number % issuer.shards)) → KeepsMore issuer view (settled Kept number counter view) logs
kept-keeps issuer number counter view logs its card other some =
    elim (pair_cases card other number counter) [
      | inl same ↦
          let P : ℕ → ℕ → Type 0 = λ card other. IsNumbered issuer card other (history_at logs.seen (card % issuer.shards)) in
          inr (subst (λ (card : ℕ). P card other) (sym same.0) (subst (λ (other : ℕ). P number other) (sym same.1) its))
      | inr apart ↦ inl (omega (arith, claims-settled_other number counter is_kept Kept card other apart view.claims))
    ]

module _ (issuer : Setup) (some : 0 < issuer.shards) (logs logs_now : TurnView LogItem LogHead) (whole : IsWhole issuer logs) where
  -- a decided request stands in the log of its card's shard
  fresh-numbered : (request : Request) (card at place : ℕ) (reply : Reply) (won : Bool) → number_of (card_of request) issuer.cards ≡ Some card
      → SeesTurn (shard_of issuer (card_of request))
      (λ old new. AnswersClaimed (shard_of issuer (card_of request)) (reply_to issuer) won old request (Fresh at place reply) new) (history_at logs.seen)
      (history_at logs_now.seen)
      → IsNumbered issuer card request.atc (history_at logs_now.seen (card % issuer.shards))
  fresh-numbered request card at place reply won number_is turn =
      let shard : ℕ = shard_of issuer (card_of request) in
      let home : shard ≡ card % issuer.shards = shard_of-known issuer (card_of request) card number_is in
      let made = turn.changes in
      let last : slice_get (history_at logs_now.seen shard) (length turn.between) ≡ Some (Decided request reply) =
      ap (λ (history : List Entry). slice_get history (length turn.between)) made.1.4 ∙ slice_get-push turn.between (Decided request reply) in
      record {
        place = length turn.between;
        request = request;
        reply = reply;
        record_is = subst (λ shard. slice_get (history_at logs_now.seen shard) (length turn.between) ≡ Some (Decided request reply)) home last;
        number_is = number_is;
        counter_is = refl;
      }

  won-keeps : (request : Request) (card : ℕ) (answer : Answer) (view : ClaimView) → number_of (card_of request) issuer.cards ≡ Some card
      → SeesTurn (shard_of issuer (card_of request))
      (λ old new. AnswersClaimed (shard_of issuer (card_of request)) (reply_to issuer) true old request answer new) (history_at logs.seen)
      (history_at logs_now.seen)
      → KeepsMore issuer view (settled (standing_by answer) card request.atc view) logs_now
  won-keeps request card (Fresh at place reply) view number_is turn =
      kept-keeps issuer card request.atc view logs_now (fresh-numbered request card at place reply true number_is turn)
  won-keeps request card (AnsweredKept at place reply) view number_is turn = back-keeps issuer card request.atc view logs_now
  won-keeps request card (Queued at place) view number_is turn = back-keeps issuer card request.atc view logs_now
  won-keeps request card (Set at place) view number_is turn = back-keeps issuer card request.atc view logs_now
  won-keeps request card (Refused refusal) view number_is turn = back-keeps issuer card request.atc view logs_now

  finish-keeps : (checked : Checked) (answer : Answer) (view : ClaimView) → FinishesInTurn issuer checked logs answer logs_now
      → ((found : _) (claim : Claim) → checked ≡ Decides found claim → number_of (card_of found.request) issuer.cards ≡ Some found.card)
      → KeepsMore issuer view (claims_after checked answer view) logs_now
  finish-keeps (Decides found Won) answer view turn number =
      won-keeps found.request found.card answer view (number found Won refl)
      (turn-sees issuer (shard_of issuer (card_of found.request)) _ logs answer logs_now
      (home-there issuer some answer logs logs_now whole (card_of found.request)) turn)
  finish-keeps (Decides found Lost) answer view turn number = keeps-same issuer view view logs_now refl
  finish-keeps (Orders found) answer view turn number = keeps-same issuer view view logs_now refl

after-tops : (checked : Checked) (answer : Answer) (view : ClaimView) → (claims_after checked answer view).tops ≡ view.tops
after-tops (Decides found Won) answer view = refl
after-tops (Decides found Lost) answer view = refl
after-tops (Orders found) answer view = refl

-- ---- a call, and all calls of a caller

-- what the calls of a caller keep: its kept claims are decisions that it has seen, and no top is forgotten
pub record CallsKeep (issuer : Setup) (claims claims_now : ClaimView) (logs_now : TurnView LogItem LogHead) : Type 0 where
  pub kept : KeepsMore issuer claims claims_now logs_now
  pub tops : (card counter : ℕ) → times card counter claims.tops ≤ times card counter claims_now.tops

module _ (issuer : Setup) (some : 0 < issuer.shards) (answer : Answer) (logs logs_now : TurnView LogItem LogHead) (whole : IsWhole issuer logs) where
  ends-keep : (says : Result Asked Refusal) (checked : Result Checked Refusal) (claims between claims_now : ClaimView)
      → PreChecks issuer says claims checked between → EndsIn issuer says checked between logs answer claims_now logs_now
      → CallsKeep issuer claims claims_now logs_now
  ends-keep says (Err refusal) claims between claims_now checks ends =
      let check = pre-checked issuer says claims (Err refusal) between checks in
      record {
        kept = λ card counter some. inl (omega (
          arith,
          some,
          check.kept card counter,
          ap (λ (view : ClaimView). claims_on is_kept card counter view.claims) ends.1,
        ));
        tops = λ card counter. omega (arith, check.tops card counter, ap (λ (view : ClaimView). times card counter view.tops) ends.1);
      }
  ends-keep says (Ok checked) claims between claims_now checks ends =
      let check = pre-checked issuer says claims (Ok checked) between checks in
      let finish = finish-keeps issuer some logs logs_now whole checked answer between ends.1 (λ found claim checked_is.
      found-number issuer says claims between claim found
      (subst (λ (checked : Checked). PreChecks issuer says claims (Ok checked) between) checked_is checks)
      (ap (λ (checked : Checked). Ok (asked_of checked)) (sym checked_is) ∙ ends.0)) in
      record {
        kept = λ card counter some.
            elim (finish card counter (omega (arith, some, ap (λ (view : ClaimView). claims_on is_kept card counter view.claims) ends.2))) [
              | inl before ↦ inl (omega (arith, before, check.kept card counter))
              | inr its ↦ inr its
            ];
        tops = λ card counter. omega (
          arith,
          check.tops card counter,
          ap (λ (view : ClaimView). times card counter view.tops) ends.2,
          ap (times card counter) (after-tops checked answer between),
        );
      }

  pub line-keeps : (says : Result Asked Refusal) (claims claims_now : ClaimView) → Authorises issuer says claims logs answer claims_now logs_now
      → CallsKeep issuer claims claims_now logs_now
  line-keeps says claims claims_now line = ends-keep says line.checked claims line.between claims_now line.checks line.ends

module _ (issuer : Setup) (some : 0 < issuer.shards) where
  -- what the calls of a caller see goes on
  pub calls-go_on : (lines : List (List ℕ)) (answers : List Answer) (claims : ClaimView) (logs : TurnView LogItem LogHead) (claims_now : ClaimView)
      (logs_now : TurnView LogItem LogHead) → AuthorisesAll issuer lines answers claims logs claims_now logs_now → IsWhole issuer logs
      → (shard : ℕ) → GoesOn (history_at logs.seen shard) (history_at logs_now.seen shard)
  calls-go_on lines answers claims logs claims_now logs_now calls whole shard =
      let order = lines-in_order issuer some lines answers claims logs claims_now logs_now calls whole in
      subst (λ (first : ℕ → List Entry). GoesOn (first shard) (history_at logs_now.seen shard)) order.begins (order.within 0 shard (omega arith))

  pub calls-keep : (lines : List (List ℕ)) (answers : List Answer) (claims : ClaimView) (logs : TurnView LogItem LogHead) (claims_now : ClaimView)
      (logs_now : TurnView LogItem LogHead) → AuthorisesAll issuer lines answers claims logs claims_now logs_now → IsWhole issuer logs
      → CallsKeep issuer claims claims_now logs_now
  calls-keep [] [] claims logs claims_now logs_now (claims_same, logs_same) whole = record {
    kept = keeps-same issuer claims claims_now logs_now claims_same;
    tops = λ card counter. omega (arith, ap (λ (view : ClaimView). times card counter view.tops) claims_same);
  }
  calls-keep [] (answer ∷ answers) claims logs claims_now logs_now calls whole = absurd calls
  calls-keep (line ∷ lines) [] claims logs claims_now logs_now calls whole = absurd calls
  calls-keep (line ∷ lines) (answer ∷ answers) claims logs claims_now logs_now (claims_then, logs_then, call, calls) whole =
      let now = line-keeps issuer some answer logs logs_then whole (reading issuer line) claims claims_then call in
      let sees = line-sees issuer some answer logs logs_then whole (reading issuer line) claims claims_then call in
      let later = calls-keep lines answers claims_then logs_then claims_now logs_now calls sees.1 in
      let on = calls-go_on lines answers claims_then logs_then claims_now logs_now calls sees.1 in
      record {
        kept = λ card counter some.
            elim (later.kept card counter some) [
              | inl before ↦
                  elim (now.kept card counter before) [
                    | inl first ↦ inl first
                    | inr its ↦ inr (numbered-stays issuer card counter _ _ (on (card % issuer.shards)) its)
                  ]
              | inr its ↦ inr its
            ];
        tops = λ card counter. omega (arith, now.tops card counter, later.tops card counter);
      }
