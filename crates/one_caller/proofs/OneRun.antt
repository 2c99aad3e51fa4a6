-- Every run of turns on legal histories extends them legally, and answers by its records.
use Rattle.std.proofs.Common.{◌≡◌, ◌≤◌, ◌<◌, ◌^◌, ◌-◌, ℕ, zero, suc, List, [], ◌∷◌, length}
use Rattle.std.proofs.Common.{get_or, None, Some, Ok, refl, sym, ap, subst, ◌∙◌, inl, inr, ⊎_elim, arith}
use Rattle.std.proofs.lemmas.Bool.{cases_eq}
use Rattle.std.proofs.lemmas.Option.{same_Some, slice_get_within, slice_get-get_or}
use Rattle.std.specs.List.{slice_get, slice_index_or}
use Rattle.issuer_base.specs.OutsideFaults.{Rose}
use Rattle.issuer_base.specs.declared.request.Request.{Request}
use Rattle.issuer_base.specs.declared.answer.Answer.{Answer}
use Rattle.issuer_base.specs.declared.answer.Answer.TheVariants.{Refused}
use Rattle.issuer_base.specs.declared.answer.Refusal.TheVariants.{StoreFault}
use Rattle.card_history.specs.declared.decision.Asked.TheVariants.{Decide}
use Rattle.card_history.specs.OneReply.{IsOfItsRecord}
use Rattle.card_history.proofs.CommandsInOrder.{in_order}
use Rattle.issuer_setup.specs.IssuerSetup.{Setup}
use Rattle.journal_rec.specs.Record.{IsRecord}
use Rattle.line_checks.specs.Reading.{reading}
use Rattle.host_loading.specs.Books.{ShardBook, histories_of}
use Rattle.one_caller.specs.OneHistory.{LegallyGoesOn, GoOnLegally, AreLegalBooks, AreRecorded, LoadsAgain, IsAnswered, HasFailed, IsOneHistory}
use Rattle.one_caller.specs.Turns.{Turn, Run}
use Rattle.host_loading.proofs.Places.{all-at, read-within}
use Rattle.one_caller.proofs.Running.{HistoriesGoOn, run-on}
use Rattle.one_caller.proofs.TurnSteps.{turn-adds, turn-failed, turn-recorded}
use Rattle.one_caller.proofs.LegalBooks.{goes-stays, legally-none, legally-one, legally-then, legal-once, recorded-stays, one-reply}

-- ---- books that are extended

-- the books are extended by valid successors, and there are as many as before
pub record BooksGoOn (issuer : Setup) (first last : List ShardBook) : Type 0 where
  pub count_is : length last ≡ length first
  pub on : GoOnLegally issuer first last

-- so the last ones are legal, where there were legal ones
pub on-legal : (issuer : Setup) (first last : List ShardBook) → BooksGoOn issuer first last → AreLegalBooks issuer last
on-legal issuer first last on shard is is_is =
    let below = slice_get_within last shard is is_is in
    let count = on.count_is in
    let was = read-within first shard (omega arith) in
    (on.on shard was.0 is was.1 is_is).0.legal

books-none : (issuer : Setup) (books : List ShardBook) → AreLegalBooks issuer books → BooksGoOn issuer books books
books-none issuer books legal = record {
  count_is = refl;
  on = λ shard was is was_is is_is.
      let same : was ≡ is = same_Some was is (sym was_is ∙ is_is) in
      subst (λ (is : ShardBook). LegallyGoesOn issuer shard was.history is.history × (was.faults ≤ is.faults)) same
      (legally-none issuer shard was.history (legal shard was was_is), omega arith);
}

books-then : (issuer : Setup) (first second third : List ShardBook) → BooksGoOn issuer first second → BooksGoOn issuer second third → BooksGoOn issuer first third
books-then issuer first second third on more =
    let count = on.count_is in
    let more_count = more.count_is in
    record {
      count_is = more_count ∙ count;
      on = λ shard was is was_is is_is.
          let below = slice_get_within first shard was was_is in
          let mid = read-within second shard (omega arith) in
          let one = on.on shard was mid.0 was_is mid.1 in
          let two = more.on shard mid.0 is mid.1 is_is in (
            legally-then issuer shard was.history mid.0.history is.history one.0 two.0,
            let before = one.1 in let after = two.1 in omega arith,
          );
    }

books-turn : (issuer : Setup) → LoadsAgain issuer → (before : List ShardBook) (line : List ℕ) (answer : Answer) (after : List ShardBook)
    → AreRecorded after → AreLegalBooks issuer before
    → Turn issuer before (reading issuer line) answer after → BooksGoOn issuer before after
books-turn issuer again before line answer after recorded legal turn =
    let adds = turn-adds issuer before line answer after (reading issuer line) refl turn in
    record {
      count_is = adds.count_is;
      on = λ shard was is was_is is_is. (
        legally-one issuer shard was.history is.history again (recorded shard is is_is) (legal shard was was_is) (adds.adds shard was is was_is is_is),
        adds.counts shard was is was_is is_is,
      );
    }

-- histories whose later ones have records alone have records alone
recorded-before : (before after : List ShardBook) → HistoriesGoOn before after → AreRecorded after → AreRecorded before
recorded-before before after on recorded shard book book_is place default within =
    let below = slice_get_within before shard book book_is in
    let count = on.count_is in
    let now = read-within after shard (omega arith) in
    let there = slice_get-get_or book.history place default within in
    all-at IsRecord now.0.history (recorded shard now.0 now.1) place (get_or book.history place default)
    (goes-stays book.history now.0.history (on.on shard book now.0 book_is now.1) place (get_or book.history place default) there)

-- ---- a store that failed

rose-later : (first old new last : ℕ) → first ≤ old → old ≤ new → new ≤ last → Rose old new → Rose first last
rose-later first old new last before during after =
    ⊎_elim (λ (more : old < new). let rises : first < last = omega arith in inl rises)
    (λ (top : new ≡ 2 ^ 64 - 1).
    elim (cases_eq last new) [
      | inl same ↦ inr (same ∙ top)
      | inr apart ↦ let rises : first < last = omega arith in inl rises
    ])

-- a count that rose in the middle rose over all
failed-within : (issuer : Setup) (first before after last : List ShardBook) → BooksGoOn issuer first before → BooksGoOn issuer before after
    → BooksGoOn issuer after last → HasFailed before after → HasFailed first last
failed-within issuer first before after last on during more failed =
    let below = slice_get_within before failed.shard failed.was failed.was_is in
    let above = slice_get_within after failed.shard failed.is failed.is_is in
    let count = on.count_is in
    let more_count = more.count_is in
    let was = read-within first failed.shard (omega arith) in
    let is = read-within last failed.shard (omega arith) in
    record {
      shard = failed.shard;
      was = was.0;
      is = is.0;
      was_is = was.1;
      is_is = is.1;
      rose =
          rose-later was.0.faults failed.was.faults failed.is.faults is.0.faults (on.on failed.shard was.0 failed.was was.1 failed.was_is).1
          (during.on failed.shard failed.was failed.is failed.was_is failed.is_is).1 (more.on failed.shard failed.is is.0 failed.is_is is.1).1 failed.rose;
    }

-- ---- the run

module _ (issuer : Setup) (again : LoadsAgain issuer) where
  -- what a run keeps
  record RunKeeps (first : List ShardBook) (lines : List (List ℕ)) (answers : List Answer) (last : List ShardBook) : Type 0 where
    on : BooksGoOn issuer first last
    recorded : (index : ℕ) (request : Request) (answer : Answer) → IsAnswered issuer lines answers index request answer
        → IsOfItsRecord (histories_of last) request answer
    blamed : (index : ℕ) → slice_get answers index ≡ Some (Refused StoreFault) → HasFailed first last

  run-keeps : (first : List ShardBook) (lines : List (List ℕ)) (answers : List Answer) (last : List ShardBook) → AreRecorded last → AreLegalBooks issuer first
      → Run issuer first lines answers last → RunKeeps first lines answers last
  run-keeps first [] [] last recorded legal run =
      subst (λ (last : List ShardBook). RunKeeps first [] [] last) (sym run) (record {
        on = books-none issuer first legal;
        recorded = λ index request answer answered. absurd (let none : None ≡ Some answered.line = answered.line_is in cc);
        blamed = λ index is. absurd (cc);
      })
  run-keeps first [] (answer ∷ answers) last recorded legal run = absurd run
  run-keeps first (line ∷ lines) [] last recorded legal run = absurd run
  run-keeps first (line ∷ lines) (answer ∷ answers) last recorded legal (between, turn, rest) =
      let earlier = recorded-before between last (run-on issuer between lines answers last rest) recorded in
      let now = books-turn issuer again first line answer between earlier legal turn in
      let others = run-keeps between lines answers last recorded (on-legal issuer first between now) rest in
      record {
        on = books-then issuer first between last now others.on;
        recorded = λ index. elim index as (λ index. (request : Request) (given : Answer)
            → IsAnswered issuer (line ∷ lines) (answer ∷ answers) index request given → IsOfItsRecord (histories_of last) request given) [
              | zero ↦ λ request given answered.
                  let same_line : line ≡ answered.line = let is : Some line ≡ Some answered.line = answered.line_is in cc in
                  let same_answer : answer ≡ given = let is : Some answer ≡ Some given = answered.answer_is in cc in
                  let read : reading issuer line ≡ Ok (Decide request) = ap (reading issuer) same_line ∙ answered.request_is in
                  let its = turn-recorded issuer first request answer between
                  (subst (λ says. Turn issuer first says answer between) read turn) in
                  recorded-stays between last others.on.count_is (λ shard was is was_is is_is. (others.on.on shard was is was_is is_is).0.goes_on) request given
                  (subst (λ (answer : Answer). IsOfItsRecord (histories_of between) request answer) same_answer its)
              | suc index ↦ λ request given answered.
                  others.recorded index request given
                  (record { line = answered.line; line_is = answered.line_is; request_is = answered.request_is; answer_is = answered.answer_is })
            ];
        blamed = λ index. elim index as (λ index. slice_get (answer ∷ answers) index ≡ Some (Refused StoreFault) → HasFailed first last) [
          | zero ↦ λ is.
              let told : answer ≡ Refused StoreFault = let e : Some answer ≡ Some (Refused StoreFault) = is in cc in
              failed-within issuer first first between last (books-none issuer first legal) now others.on
              (turn-failed issuer first line answer between (reading issuer line) refl turn told)
          | suc index ↦ λ is.
              failed-within issuer first between last last now others.on
              (books-none issuer last (on-legal issuer between last others.on)) (others.blamed index is)
        ];
      }

  -- the law
  pub run-one_history : (first last : List ShardBook) (lines : List (List ℕ)) (answers : List Answer) → AreLegalBooks issuer first → AreRecorded last
      → Run issuer first lines answers last → IsOneHistory issuer lines answers first last
  run-one_history first last lines answers legal recorded run =
      let kept = run-keeps first lines answers last recorded legal run in
      let once = legal-once issuer last (on-legal issuer first last kept.on) in
      record {
        goes_on = kept.on.on;
        once = once;
        recorded = kept.recorded;
        one_reply = λ first_index second_index request answer other reply other_reply first_answered second_answered reply_is other_is.
            one-reply (histories_of last) request answer other reply other_reply once (kept.recorded first_index request answer first_answered)
            (kept.recorded second_index request other second_answered) reply_is other_is;
        in_order = λ card shard. in_order card (slice_index_or (histories_of last) shard []);
        blamed = kept.blamed;
      }
