-- The run of several callers: what holds of all their answers.
use Rattle.std.proofs.Common.{◌≡◌, ◌<◌, ℕ, zero, suc, ◌%◌, List, [], ◌∷◌, length, map, take, drop, Some, Ok, refl, sym, ap, subst, ◌∙◌, inl, inr, arith}
use Rattle.std.proofs.lemmas.Bool.{cases_lt}
use Rattle.std.proofs.lemmas.Option.{same_Some, slice_get_within}
use Rattle.std.specs.List.{slice_get, slice_index_or}
use Rattle.issuer_base.specs.declared.answer.Answer.{Answer}
use Rattle.issuer_base.specs.declared.answer.Answer.TheVariants.{Fresh, Kept, Queued, Set, Refused}
use Rattle.issuer_base.specs.declared.entry.Entry.{Entry}
use Rattle.issuer_base.specs.declared.request.Request.{Request}
use Rattle.card_history.specs.declared.decision.Asked.TheVariants.{Decide}
use Rattle.card_history.specs.LegalRecords.{IsLegalHistory}
use Rattle.card_history.specs.OneReply.{IsOncePerCounter, IsOfItsRecord}
use Rattle.card_history.specs.Records.{card_of}
use Rattle.issuer_setup.specs.IssuerSetup.{Setup}
use Rattle.issuer_setup.proofs.Shards.{shard_of-known}
use Rattle.line_checks.specs.Reading.{reading}
use Rattle.claim_words.specs.declared.layout.TheConstants.{COUNTERS}
use Rattle.claim_words.specs.declared.view.Claimed.{Claimed}
use Rattle.claim_words.specs.declared.view.ClaimView.{ClaimView}
use Rattle.claim_words.specs.ClaimViews.{claims_on, times, is_kept}
use Rattle.turn_book.specs.declared.logs.Log.{Log}
use Rattle.turn_book.specs.declared.view.TurnView.{TurnView}
use Rattle.turn_book.specs.Logs.{items_at}
use Rattle.shard_book.specs.Grounds.{grounds_of}
use Rattle.shared_shards.specs.declared.logs.LogItem.{LogItem}
use Rattle.shared_shards.specs.declared.logs.LogHead.{LogHead}
use Rattle.shared_shards.specs.ShardLogs.{records_of}
use Rattle.shard_book.specs.Histories.{GoesOn}
use Rattle.shard_book.proofs.Histories.{goes-then}
use Rattle.host_loading.specs.Books.{ShardBook, histories_of}
use Rattle.shared_laws.specs.Closing.{book_of}
use Rattle.one_caller.specs.OneHistory.{AreLegalBooks, IsAnswered}
use Rattle.shared_laws.specs.OpeningLogs.{opened_on}
use Rattle.one_caller.proofs.LegalBooks.{legal-once, one-reply}
use Rattle.host_loading.proofs.Places.{read-mapped}
use Rattle.shared_laws.specs.Callers.{AuthorisesAll, Caller, IsCaller}
use Rattle.shared_laws.specs.Explained.{history_at, histories_in, IsDecidedOn, Explains, AreAnsweredInOrder}
use Rattle.shared_laws.proofs.CallersAnswers.{AreCallers}
use Rattle.shared_laws.proofs.CallersAnswers.{AreCallersExplained}
use Rattle.shared_laws.proofs.Lists.{part-within, some-part}
use Rattle.shared_laws.proofs.Decisions.{IsNumbered, numbered-stays, numbered-decided, decided-numbered, one-true}
use Rattle.shared_laws.proofs.Seen.{records-go_on, IsWhole, line-sees, lines-in_order}
use Rattle.shared_laws.proofs.KeptClaims.{calls-go_on, calls-keep}
use Rattle.shared_laws.proofs.TooOld.{below-first}
use Rattle.shared_laws.proofs.Explaining.{AreKnown, line-explained}
use Rattle.shared_laws.proofs.MoreLines.{call-at}
use Rattle.shared_laws.proofs.CallTurns.{calls-see}

-- each line of a caller was answered
answered-all : (issuer : Setup) (lines : List (List ℕ)) (answers : List Answer) (claims : ClaimView) (logs : TurnView LogItem LogHead)
    (claims_now : ClaimView) (logs_now : TurnView LogItem LogHead) → AuthorisesAll issuer lines answers claims logs claims_now logs_now
    → length answers ≡ length lines
answered-all issuer [] [] claims logs claims_now logs_now calls = refl
answered-all issuer [] (answer ∷ answers) claims logs claims_now logs_now calls = absurd calls
answered-all issuer (line ∷ lines) [] claims logs claims_now logs_now calls = absurd calls
answered-all issuer (line ∷ lines) (answer ∷ answers) claims logs claims_now logs_now (claims_then, logs_then, call, calls) =
    omega (arith, answered-all issuer lines answers claims_then logs_then claims_now logs_now calls)

-- ---- the histories of all shards

items-there : (logs : List (Log LogItem LogHead)) (shard : ℕ) (log : Log LogItem LogHead) → slice_get logs shard ≡ Some log → items_at logs shard ≡ log.items
items-there [] shard log is = absurd (cc)
items-there (first ∷ logs) zero log is = ap (λ (log : Log LogItem LogHead). log.items) (same_Some first log is)
items-there (first ∷ logs) (suc shard) log is = items-there logs shard log is

history-there : (logs : List (Log LogItem LogHead)) (shard : ℕ) → slice_index_or (histories_in logs) shard [] ≡ history_at logs shard
history-there [] shard = refl
history-there (log ∷ logs) zero = refl
history-there (log ∷ logs) (suc shard) = history-there logs shard

books-histories : (logs : List (Log LogItem LogHead)) → histories_of (map (λ (log : Log LogItem LogHead). book_of log 0) logs) ≡ histories_in logs
books-histories [] = refl
books-histories (log ∷ logs) = λ i. records_of log.items ∷ books-histories logs i

module _ (issuer : Setup) (opening logs : List (Log LogItem LogHead)) (callers : List Caller) (are : AreCallers issuer opening logs callers) where
  -- no ATC of a card is decided twice
  once : IsOncePerCounter (histories_in logs)
  once =
      let books : List ShardBook = map (λ (log : Log LogItem LogHead). book_of log 0) logs in
      let legal : AreLegalBooks issuer books = λ shard book is.
      let log = read-mapped (λ (log : Log LogItem LogHead). book_of log 0) logs shard book is in
      let within = slice_get_within logs shard log.0 log.1 in
      let below : shard < issuer.shards = omega (arith, within, are.same_count, are.count_is) in
      let history : records_of (items_at logs shard) ≡ book.history =
      ap records_of (items-there logs shard log.0 log.1) ∙ ap (λ (book : ShardBook). book.history) log.2 in
      subst (λ (history : List Entry). IsLegalHistory (grounds_of issuer) shard history) history (are.goes_on shard below).legal in
      subst IsOncePerCounter (books-histories logs) (legal-once issuer books legal)

  -- what a caller has seen is in the logs at close
  module _ (index : ℕ) (caller : Caller) (caller_is : slice_get callers index ≡ Some caller) where
    its : IsCaller issuer opening caller
    its = are.each index caller caller_is

    whole : IsWhole issuer caller.logs
    whole = ap (λ (logs : List (Log LogItem LogHead)). length logs) its.opened ∙ are.count_is

    to-last : (shard : ℕ) → GoesOn (history_at caller.logs_now.seen shard) (history_at logs shard)
    to-last shard = records-go_on (items_at caller.logs_now.seen shard) (items_at logs shard) (are.seen index shard caller caller_is)

    kept-stands : (card counter : ℕ) → 0 < claims_on is_kept card counter caller.claims_now.claims
        → IsNumbered issuer card counter (history_at logs (card % issuer.shards))
    kept-stands card counter more =
        let keeps = calls-keep issuer are.some caller.lines caller.answers caller.claims caller.logs caller.claims_now caller.logs_now its.calls whole in
        elim (keeps.kept card counter more) [
          | inl before ↦ absurd (omega (arith, before, ap (λ (claims : List Claimed). claims_on is_kept card counter claims) its.no_claims))
          | inr stands ↦ numbered-stays issuer card counter _ _ (to-last (card % issuer.shards)) stands
        ]

  -- what a top told is recorded in the end
  top-stands : (index : ℕ) (caller : Caller) → slice_get callers index ≡ Some caller → (card top : ℕ) → top < COUNTERS
      → 0 < times card top caller.claims_now.tops
      → IsNumbered issuer card top (history_at logs (card % issuer.shards))
  top-stands index caller caller_is card top bounded told =
      let part = part-within (λ (caller : Caller). times card top caller.claims_now.tops) callers index caller caller_is in
      let found = are.tops card top bounded (omega (arith, told, part)) in
      elim (cases_lt 0 (opened_on issuer opening card top)) [
        | inl opened ↦
            numbered-stays issuer card top _ _
            (records-go_on (items_at opening (card % issuer.shards)) (items_at logs (card % issuer.shards)) (are.opening_front (card % issuer.shards)))
            (decided-numbered issuer card top (items_at opening (card % issuer.shards)) (one-true _ opened))
        | inr none ↦
            let one = some-part (λ (caller : Caller). claims_on is_kept card top caller.claims_now.claims) callers (omega (arith, found, none)) in
            kept-stands one.0 one.1 one.2 card top one.3
      ]

  module _ (index : ℕ) (caller : Caller) (caller_is : slice_get callers index ≡ Some caller) where
    known : AreKnown issuer caller.claims_now (history_at logs)
    known request card top number_is told bounded =
        subst (λ shard. IsDecidedOn (card_of request) top (history_at logs shard)) (sym (shard_of-known issuer (card_of request) card number_is))
        (numbered-decided issuer card top (card_of request) _ number_is (top-stands index caller caller_is card top bounded told))

    explained : (place : ℕ) (line : List ℕ) (answer : Answer) → slice_get caller.lines place ≡ Some line → slice_get caller.answers place ≡ Some answer
        → Explains issuer (history_at opening) (history_at logs) (reading issuer line) answer
    explained place line answer line_is answer_is =
        let caller_has = its index caller caller_is in
        let begins = whole index caller caller_is in
        let call = call-at issuer caller.lines caller.answers caller.claims caller.logs caller.claims_now caller.logs_now caller_has.calls place answer
        answer_is in
        let same_line : call.line ≡ line = same_Some call.line line (sym call.line_is ∙ line_is) in
        let first = calls-see issuer (take place caller.lines) (take place caller.answers) caller.claims caller.logs call.claims_before call.logs_before
        call.before in
        let before : IsWhole issuer call.logs_before = first.count_is ∙ begins in
        let sees = line-sees issuer are.some answer call.logs_before call.logs_after before (reading issuer call.line) call.claims_before call.claims_after
        call.call in
        let after : IsWhole issuer call.logs_after = sees.1 in
        let later = calls-keep issuer are.some (drop (suc place) caller.lines) (drop (suc place) caller.answers) call.claims_after call.logs_after
        caller.claims_now caller.logs_now call.after after in
        let now : (shard : ℕ) → GoesOn (history_at call.logs_after.seen shard) (history_at logs shard) = λ shard.
        goes-then (history_at call.logs_after.seen shard) (history_at caller.logs_now.seen shard) (history_at logs shard)
        (calls-go_on issuer are.some (drop (suc place) caller.lines) (drop (suc place) caller.answers) call.claims_after call.logs_after caller.claims_now
        caller.logs_now call.after after shard) (to-last index caller caller_is shard) in
        let from : (shard : ℕ) → GoesOn (history_at opening shard) (history_at call.logs_before.seen shard) = λ shard.
        subst (λ (seen : List (Log LogItem LogHead)). GoesOn (history_at seen shard) (history_at call.logs_before.seen shard)) caller_has.opened
        (calls-go_on issuer are.some (take place caller.lines) (take place caller.answers) caller.claims caller.logs call.claims_before call.logs_before
        call.before begins shard) in
        subst (λ (line : List ℕ). Explains issuer (history_at opening) (history_at logs) (reading issuer line) answer) same_line
        (line-explained issuer are.some (history_at opening) (history_at logs) answer call.logs_before call.logs_after before from now
        (reading issuer call.line) call.claims_before call.claims_after
        (λ request card top number_is told bounded. known request card top number_is (omega (arith, told, later.tops card top)) bounded) call.call)

    -- the callers' answers are in order
    in_order : AreAnsweredInOrder issuer (history_at opening) (history_at logs) caller.lines caller.answers
    in_order =
        let caller_has = its index caller caller_is in
        let order = lines-in_order issuer are.some caller.lines caller.answers caller.claims caller.logs caller.claims_now caller.logs_now caller_has.calls
        (whole index caller caller_is) in
        record {
          seen = order.seen;
          begins = order.begins ∙ ap history_at caller_has.opened;
          goes_on = order.goes_on;
          within = λ count shard below.
              goes-then (order.seen count shard) (history_at caller.logs_now.seen shard) (history_at logs shard) (order.within count shard below)
              (to-last index caller caller_is shard);
          sees = order.sees;
        }

    explained-recorded : (request : Request) (answer : Answer)
        → Explains issuer (history_at opening) (history_at logs) (Ok (Decide request)) answer → IsOfItsRecord (histories_in logs) request answer
    explained-recorded request (Fresh at place reply) (at_is, past, is) =
        ap (λ (history : List Entry). slice_get history place) (history-there logs at ∙ ap (history_at logs) at_is) ∙ is
    explained-recorded request (Kept at place reply) (at_is, is) =
        ap (λ (history : List Entry). slice_get history place) (history-there logs at ∙ ap (history_at logs) at_is) ∙ is
    explained-recorded request (Queued at place) explains = tt
    explained-recorded request (Set at place) explains = tt
    explained-recorded request (Refused refusal) explains = tt

    recorded : (place : ℕ) (request : Request) (answer : Answer) → IsAnswered issuer caller.lines caller.answers place request answer
        → IsOfItsRecord (histories_in logs) request answer
    recorded place request answer answered =
        explained-recorded request answer
        (subst (λ says. Explains issuer (history_at opening) (history_at logs) says answer) answered.request_is
        (explained place answered.line answer answered.line_is answered.answer_is))

  -- the law
  pub callers-explained : AreCallersExplained issuer opening logs callers
  callers-explained = record {
    answered = λ index caller caller_is. answered-all issuer caller.lines caller.answers _ _ _ _ (are.each index caller caller_is).calls;
    explained = λ index place caller line answer caller_is. explained index caller caller_is place line answer;
    in_order = in_order;
    below_first = λ index place later caller request other top shard at reply caller_is before first second card counter.
        let caller_has = its index caller caller_is in
        below-first issuer are.some caller.lines caller.answers caller.claims caller.logs caller.claims_now caller.logs_now caller_has.calls
        (whole index caller caller_is) place later request other top shard at reply before first second card counter;
    once = once;
    recorded = λ index place caller request answer caller_is. recorded index caller caller_is place request answer;
    one_reply = λ index other_index place other_place caller other_caller request answer other reply other_reply caller_is other_is answered other_answered
        reply_is other_reply_is.
        one-reply (histories_in logs) request answer other reply other_reply once (recorded index caller caller_is place request answer answered)
        (recorded other_index other_caller other_is other_place request other other_answered) reply_is other_reply_is;
  }
