-- What one turn does to the books: at most one shard has one more record, a valid successor by the issuer's decision.
use Rattle.std.proofs.Common.{◌≡◌, ◌≢◌, ◌⊎◌, ◌≤◌, ℕ, true, List, [], ◌∷◌, ◌++◌, length, length-set, Some, Result, Ok, Err}
use Rattle.std.proofs.Common.{refl, sym, ap, subst, ◌∙◌, inl, inr, arith}
use Rattle.std.proofs.lemmas.Bool.{cases_eq}
use Rattle.std.proofs.lemmas.Option.{same_Some, slice_get_within, get_or_from_slice_get}
use Rattle.std.specs.List.{slice_get, slice_index_or}
use Rattle.issuer_base.specs.OutsideFaults.{CountsFaults}
use Rattle.issuer_base.specs.declared.command.Command.{Command}
use Rattle.issuer_base.specs.declared.request.Request.{Request}
use Rattle.issuer_base.specs.declared.answer.Answer.{Answer}
use Rattle.issuer_base.specs.declared.answer.Answer.TheVariants.{Fresh, Kept, Queued, Set, Refused}
use Rattle.issuer_base.specs.declared.answer.Refusal.{Refusal}
use Rattle.issuer_base.specs.declared.answer.Refusal.TheVariants.{Below, Taken, QueueFull, Pending, StoreFault}
use Rattle.issuer_base.specs.declared.entry.Entry.{Entry}
use Rattle.issuer_base.specs.declared.entry.Entry.TheVariants.{Decided, Queued as IsQueued, Status as IsStatus}
use Rattle.card_history.specs.declared.decision.Asked.{Asked}
use Rattle.card_history.specs.declared.decision.Asked.TheVariants.{Decide, Queue, Status}
use Rattle.card_history.specs.declared.decision.Decision.{Decision}
use Rattle.card_history.specs.LegalRecords.{IsLegal}
use Rattle.card_history.specs.OneReply.{record_at, IsOfItsRecord}
use Rattle.issuer_base.specs.CardNames.{CardName, named}
use Rattle.card_history.specs.Records.{card_of}
use Rattle.card_history.proofs.LongerHistories.{slice_get-push}
use Rattle.card_history.proofs.RecordPlaces.{decided-recorded}
use Rattle.issuer_setup.specs.IssuerSetup.{Setup, shard_of}
use Rattle.line_checks.specs.Reading.{reading}
use Rattle.shard_book.specs.Replying.{reply_to}
use Rattle.shard_book.specs.Answering.{is_store_fault, AnswersClaimed, AnswersQueueing, AnswersSetting}
use Rattle.shard_book.specs.Grounds.{grounds_now}
use Rattle.shard_book.proofs.LegalDecisions.{legal-own}
use Rattle.host_loading.specs.Books.{ShardBook, histories_of}
use Rattle.one_caller.specs.OneHistory.{HasFailed}
use Rattle.one_caller.specs.Turns.{AnswersIn, Turn}
use Rattle.one_caller.proofs.Asked.{AsksRequest, AsksCommand, AsksStatus, asks-request, asks-command, asks-status, asks-no_store}
use Rattle.host_loading.proofs.Places.{read-written, read-other, read-map}

-- the history is as it was, or has one record more, a valid successor by the issuer's own decision
abbrev pub AddsAtMostOne : Setup → ℕ → List Entry → List Entry → Type 0
AddsAtMostOne issuer shard before after =
    (after ≡ before) ⊎ ((entry : Entry) × (after ≡ before ++ entry ∷ []) × IsLegal (grounds_now issuer) shard before entry)

-- ---- the answers of a shard

claimed-adds : (issuer : Setup) (before : List Entry) (request : Request) (answer : Answer) (after : List Entry) → AsksRequest issuer request
    → AnswersClaimed (shard_of issuer (card_of request)) (reply_to issuer) true before request answer after
    → AddsAtMostOne issuer (shard_of issuer (card_of request)) before after
claimed-adds issuer before request (Fresh at place reply) after asks (won, (unused, at_is, place_is, reply_is, after_is)) =
    inr (
      Decided request reply,
      after_is,
      legal-own issuer (shard_of issuer (card_of request)) before request reply asks.home asks.passes unused reply_is,
    )
claimed-adds issuer before request (Kept at place reply) after asks (used, at_is, after_is) = inl after_is
claimed-adds issuer before request (Refused (Below greatest)) after asks (too_old, after_is) = inl after_is
claimed-adds issuer before request (Refused (Taken at place)) after asks (taken, at_is, after_is) = inl after_is
claimed-adds issuer before request (Refused Pending) after asks (lost, unused, after_is) = inl after_is
claimed-adds issuer before request (Refused StoreFault) after asks (won, unused, after_is) = inl after_is
claimed-adds issuer before request _ after asks turn = absurd turn

queueing-adds : (issuer : Setup) (before : List Entry) (name : CardName) (command : Command) (answer : Answer) (after : List Entry)
    → AsksCommand issuer name command → AnswersQueueing (shard_of issuer name) before name command answer after
    → AddsAtMostOne issuer (shard_of issuer name) before after
queueing-adds issuer before name command (Queued at place) after asks (room, at_is, place_is, after_is) =
    inr (IsQueued name.pan name.psn command, after_is, record { of_a_card = asks.home; form = asks.form; room = room })
queueing-adds issuer before name command (Refused QueueFull) after asks (full, after_is) = inl after_is
queueing-adds issuer before name command (Refused StoreFault) after asks (room, after_is) = inl after_is
queueing-adds issuer before name command _ after asks turn = absurd turn

setting-adds : (issuer : Setup) (before : List Entry) (name : CardName) (status : ℕ) (answer : Answer) (after : List Entry)
    → AsksStatus issuer name status → AnswersSetting (shard_of issuer name) before name status answer after
    → AddsAtMostOne issuer (shard_of issuer name) before after
setting-adds issuer before name status (Set at place) after asks (at_is, place_is, after_is) =
    inr (IsStatus name.pan name.psn status, after_is, record { of_a_card = asks.home; within = asks.within })
setting-adds issuer before name status (Refused StoreFault) after asks after_is = inl after_is
setting-adds issuer before name status _ after asks turn = absurd turn

-- ---- the books after a turn

-- what a turn does to the books: each history has at most one record more, and no count of faults fell
pub record TurnAdds (issuer : Setup) (before after : List ShardBook) : Type 0 where
  pub count_is : length after ≡ length before
  pub adds : (shard : ℕ) (was is : ShardBook) → slice_get before shard ≡ Some was → slice_get after shard ≡ Some is
      → AddsAtMostOne issuer shard was.history is.history
  pub counts : (shard : ℕ) (was is : ShardBook) → slice_get before shard ≡ Some was → slice_get after shard ≡ Some is → was.faults ≤ is.faults

same-adds : (issuer : Setup) (before after : List ShardBook) → after ≡ before → TurnAdds issuer before after
same-adds issuer before after same = subst (TurnAdds issuer before) (sym same) (record {
  count_is = refl;
  adds = λ shard was is was_is is_is. inl (ap (λ (book : ShardBook). book.history) (same_Some is was (sym is_is ∙ was_is)));
  counts = λ shard was is was_is is_is. let both = ap (λ (book : ShardBook). book.faults) (same_Some is was (sym is_is ∙ was_is)) in omega arith;
})

module _ (issuer : Setup) (before : List ShardBook) (name : CardName) (answer : Answer) (Changes : ℕ → List Entry → List Entry → Type 0) (after : List ShardBook)
    (answers : AnswersIn issuer before name answer Changes after) where
  home : ℕ
  home = shard_of issuer name

  -- the new book is that of the card's shard
  book-there : slice_get after home ≡ Some answers.new
  unfolding home
  book-there =
      subst (λ (after : List ShardBook). slice_get after home ≡ Some answers.new) (sym answers.after_is)
      (read-written before home answers.new (slice_get_within before home answers.old answers.old_is))

  book-other : (shard : ℕ) (is : ShardBook) → shard ≢ home → slice_get after shard ≡ Some is → slice_get before shard ≡ Some is
  unfolding home
  book-other shard is apart is_is =
      sym (read-other before home answers.new shard apart) ∙ sym (ap (λ (after : List ShardBook). slice_get after shard) answers.after_is) ∙ is_is

  pub in_shard-adds : AddsAtMostOne issuer (shard_of issuer name) answers.old.history answers.new.history → TurnAdds issuer before after
  unfolding home
  in_shard-adds adds = record {
    count_is = ap (λ (after : List ShardBook). length after) answers.after_is ∙ length-set before home answers.new;
    adds = λ shard was is was_is is_is.
        elim (cases_eq shard home) [
          | inl same ↦
              let was_at : answers.old ≡ was =
              same_Some answers.old was (sym answers.old_is ∙ subst (λ shard. slice_get before shard ≡ Some was) same was_is) in
              let is_at : answers.new ≡ is = same_Some answers.new is (sym book-there ∙ subst (λ shard. slice_get after shard ≡ Some is) same is_is) in
              subst (λ shard. AddsAtMostOne issuer shard was.history is.history) (sym same)
              (subst (λ (was : ShardBook). AddsAtMostOne issuer home was.history is.history) was_at
              (subst (λ (is : ShardBook). AddsAtMostOne issuer home answers.old.history is.history) is_at adds))
          | inr apart ↦
              inl (ap (λ (book : ShardBook). book.history) (same_Some is was (sym (book-other shard is apart is_is) ∙ was_is)))
        ];
    counts = λ shard was is was_is is_is.
        elim (cases_eq shard home) [
          | inl same ↦
              let was_at : answers.old ≡ was =
              same_Some answers.old was (sym answers.old_is ∙ subst (λ shard. slice_get before shard ≡ Some was) same was_is) in
              let is_at : answers.new ≡ is = same_Some answers.new is (sym book-there ∙ subst (λ shard. slice_get after shard ≡ Some is) same is_is) in
              subst (λ (was : ShardBook). was.faults ≤ is.faults) was_at
              (subst (λ (is : ShardBook). answers.old.faults ≤ is.faults) is_at answers.counts.never_falls)
          | inr apart ↦
              let both = ap (λ (book : ShardBook). book.faults) (same_Some is was (sym (book-other shard is apart is_is) ∙ was_is)) in
              omega arith
        ];
  }

  -- if the answer reports that a store failed, that of the shard did
  pub in_shard-failed : answer ≡ Refused StoreFault → HasFailed before after
  unfolding home
  in_shard-failed told = record {
    shard = home;
    was = answers.old;
    is = answers.new;
    was_is = answers.old_is;
    is_is = book-there;
    rose = let counts = subst (λ (answer : Answer). CountsFaults answers.old.faults answers.new.faults (is_store_fault answer)) told answers.counts in
        counts.counted;
  }

  -- the shard's history is the new book's
  pub history-there : slice_index_or (histories_of after) (shard_of issuer name) [] ≡ answers.new.history
  unfolding home
  history-there =
      get_or_from_slice_get (histories_of after) home answers.new.history [] (read-map (λ (book : ShardBook). book.history) after home answers.new book-there)

-- ---- one turn

module _ (issuer : Setup) (before : List ShardBook) (line : List ℕ) (answer : Answer) (after : List ShardBook) where
  pub turn-adds : (says : Result Asked Refusal) → reading issuer line ≡ says → Turn issuer before says answer after → TurnAdds issuer before after
  turn-adds (Ok (Decide request)) read turn =
      in_shard-adds issuer before (card_of request) answer _ after turn
      (claimed-adds issuer turn.old.history request answer turn.new.history (asks-request issuer line request read) turn.changes)
  turn-adds (Ok (Queue pan psn command)) read turn =
      in_shard-adds issuer before (named pan psn) answer _ after turn
      (queueing-adds issuer turn.old.history (named pan psn) command answer turn.new.history (asks-command issuer line pan psn command read) turn.changes)
  turn-adds (Ok (Status pan psn status)) read turn =
      in_shard-adds issuer before (named pan psn) answer _ after turn
      (setting-adds issuer turn.old.history (named pan psn) status answer turn.new.history (asks-status issuer line pan psn status read) turn.changes)
  turn-adds (Err refusal) read turn = same-adds issuer before after turn.1

  -- an answer that reports that a store failed is right
  pub turn-failed : (says : Result Asked Refusal) → reading issuer line ≡ says → Turn issuer before says answer after → answer ≡ Refused StoreFault
      → HasFailed before after
  turn-failed (Ok (Decide request)) read turn told = in_shard-failed issuer before (card_of request) answer _ after turn told
  turn-failed (Ok (Queue pan psn command)) read turn told = in_shard-failed issuer before (named pan psn) answer _ after turn told
  turn-failed (Ok (Status pan psn status)) read turn told = in_shard-failed issuer before (named pan psn) answer _ after turn told
  turn-failed (Err refusal) read turn told =
      let same : refusal ≡ StoreFault = let both : Refused refusal ≡ Refused StoreFault = sym turn.0 ∙ told in cc in
      absurd (asks-no_store issuer line (read ∙ ap (λ (refusal : Refusal). Err refusal) same))

-- ---- the reply of a record

-- a record of the shard's history has its index there
placed : (histories : List (List Entry)) (home : ℕ) (history : List Entry) (shard place : ℕ) (entry : Entry) → slice_index_or histories home [] ≡ history
    → shard ≡ home → slice_get history place ≡ Some entry → record_at histories shard place ≡ Some entry
placed histories home history shard place entry here shard_is is =
    ap (λ (shard : ℕ). record_at histories shard place) shard_is ∙ ap (λ (history : List Entry). slice_get history place) here ∙ is

claimed-recorded : (issuer : Setup) (histories : List (List Entry)) (home : ℕ) (before : List Entry) (request : Request) (answer : Answer) (after : List Entry)
    → slice_index_or histories home [] ≡ after → AnswersClaimed home (reply_to issuer) true before request answer after
    → IsOfItsRecord histories request answer
claimed-recorded issuer histories home before request (Fresh at place reply) after here (won, (unused, at_is, place_is, reply_is, after_is)) =
    let last : slice_get (before ++ Decided request reply ∷ []) place ≡ Some (Decided request reply) =
    ap (slice_get (before ++ Decided request reply ∷ [])) place_is ∙ slice_get-push before (Decided request reply) in
    placed histories home (before ++ Decided request reply ∷ []) at place (Decided request reply) (here ∙ after_is) at_is last
claimed-recorded issuer histories home before request (Kept at place reply) after here (used, at_is, after_is) =
    let decision : Decision = record { request = request; reply = reply; place = place } in
    placed histories home before at place (Decided request reply) (here ∙ after_is) at_is
    (decided-recorded (card_of request) before decision used.recorded).0
claimed-recorded issuer histories home before request (Queued at place) after here turn = tt
claimed-recorded issuer histories home before request (Set at place) after here turn = tt
claimed-recorded issuer histories home before request (Refused refusal) after here turn = tt

-- the answer to a request is that of its record
pub turn-recorded : (issuer : Setup) (before : List ShardBook) (request : Request) (answer : Answer) (after : List ShardBook)
    → Turn issuer before (Ok (Decide request)) answer after → IsOfItsRecord (histories_of after) request answer
turn-recorded issuer before request answer after turn =
    claimed-recorded issuer (histories_of after) (shard_of issuer (card_of request)) turn.old.history request answer turn.new.history
    (history-there issuer before (card_of request) answer _ after turn) turn.changes
