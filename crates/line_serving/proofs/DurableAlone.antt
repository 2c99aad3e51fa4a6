-- The record of each answer that one caller gives is durable.
use Rattle.std.proofs.Common.{◌≡◌, ℕ, zero, suc, List, [], ◌∷◌, ◌++◌, get_or, Option, None, Some, Result, Ok, Err}
use Rattle.std.proofs.Common.{refl, sym, ap, subst, ◌∙◌, arith, true}
use Rattle.std.specs.Prelude.{IfSome}
use Rattle.std.proofs.lemmas.List.Elements.{All-push}
use Rattle.std.proofs.lemmas.Option.{slice_get_within}
use Rattle.std.specs.List.{slice_get}
use Rattle.issuer_base.specs.CardNames.{named}
use Rattle.issuer_base.specs.declared.answer.Answer.{Answer}
use Rattle.issuer_base.specs.declared.answer.Refusal.{Refusal}
use Rattle.issuer_base.specs.declared.entry.Entry.{Entry}
use Rattle.issuer_base.specs.declared.outside.store.Store.{Ghosts}
use Rattle.card_history.specs.declared.decision.Asked.{Asked}
use Rattle.card_history.specs.declared.decision.Asked.TheVariants.{Decide, Queue, Status}
use Rattle.card_history.specs.Records.{card_of}
use Rattle.issuer_setup.specs.IssuerSetup.{Setup, shard_of}
use Rattle.answer_text.specs.AnswerText.{printed}
use Rattle.line_checks.specs.Reading.{reading}
use Rattle.shard_book.specs.declared.shard.Shard.{Shard}
use Rattle.shard_book.specs.Answering.{AnswersClaimed, AnswersQueueing, AnswersSetting}
use Rattle.shard_book.specs.Replying.{reply_to}
use Rattle.shard_book.specs.Shards.{disk_in, StandsFor}
use Rattle.host_loading.specs.Books.{ShardBook}
use Rattle.host_loading.specs.Hosts.{Stand}
use Rattle.host_loading.proofs.Places.{read-within, read-written}
use Rattle.one_caller.specs.declared.solo.Solo.{Solo}
use Rattle.one_caller.specs.Turns.{AnswersIn, AnswersAsked, Turn, card_asked}
use Rattle.one_caller.proofs.LegalBooks.{goes-stays, record-in_book, record-of_book}
use Rattle.one_caller.proofs.Running.{run-on}
use Rattle.shared_laws.specs.Shares.{history_in}
use Rattle.line_serving.proofs.Durable.{durable-at, claimed-recorded, queued-recorded, set-recorded, refused-recorded}
use Rattle.desk_host.specs.Journals.{IsReadySolo}
use Rattle.desk_host.specs.SeenStores.{Logged}
use Rattle.desk_host.proofs.KeptSteps.{begins}
use Rattle.line_serving.specs.Durable.{record_in, IsRecordedAt, IsRecordedIn, IsDurableAt, IsDurableText, IsRecordedText}
use Rattle.line_serving.proofs.AloneSteps.{texts-more}

-- ---- the record of an answer

-- the history of a shard that is there
history-there : (books : List ShardBook) (shard : ℕ) (book : ShardBook) → slice_get books shard ≡ Some book → history_in books shard ≡ book.history
history-there [] shard book is = absurd (cc)
history-there (other ∷ books) zero book is =
    let same : other ≡ book = let e : Some other ≡ Some book = is in cc in
    ap (λ (book : ShardBook). book.history) same
history-there (other ∷ books) (suc shard) book is = history-there books shard book is

-- the new history of the shard in which a line was answered
new-history : (issuer : Setup) (before : List ShardBook) (asked : Asked) (answer : Answer) (after : List ShardBook)
    (turn : AnswersIn issuer before (card_asked asked) answer (AnswersAsked issuer asked answer) after)
    → turn.new.history ≡ history_in after (shard_of issuer (card_asked asked))
new-history issuer before asked answer after turn =
    let shard : ℕ = shard_of issuer (card_asked asked) in
    let there : slice_get after shard ≡ Some turn.new =
    ap (λ (books : List ShardBook). slice_get books shard) turn.after_is
    ∙ read-written before shard turn.new (slice_get_within before shard turn.old turn.old_is) in
    sym (history-there after shard turn.new there)

-- the history of its shard has the record of an answer
turn-recorded : (issuer : Setup) (before : List ShardBook) (says : Result Asked Refusal) (answer : Answer) (after : List ShardBook)
    → Turn issuer before says answer after → IsRecordedIn (history_in after) answer
turn-recorded issuer before (Err refusal) answer after turn = refused-recorded (history_in after) answer refusal turn.0
turn-recorded issuer before (Ok (Decide request)) answer after turn =
    let shard : ℕ = shard_of issuer (card_of request) in
    claimed-recorded (history_in after) shard turn.old.history answer issuer true request
    (subst (λ (history : List Entry). AnswersClaimed shard (reply_to issuer) true turn.old.history request answer history)
    (new-history issuer before (Decide request) answer after turn) turn.changes)
turn-recorded issuer before (Ok (Queue pan psn command)) answer after turn =
    let shard : ℕ = shard_of issuer (named pan psn) in
    queued-recorded (history_in after) shard turn.old.history answer (named pan psn) command
    (subst (λ (history : List Entry). AnswersQueueing shard turn.old.history (named pan psn) command answer history)
    (new-history issuer before (Queue pan psn command) answer after turn) turn.changes)
turn-recorded issuer before (Ok (Status pan psn status)) answer after turn =
    let shard : ℕ = shard_of issuer (named pan psn) in
    set-recorded (history_in after) shard turn.old.history answer (named pan psn) status
    (subst (λ (history : List Entry). AnswersSetting shard turn.old.history (named pan psn) status answer history)
    (new-history issuer before (Status pan psn status) answer after turn) turn.changes)

-- and keeps it
module _ (issuer : Setup) (before : List ShardBook) (line : List ℕ) (given : Answer) (after : List ShardBook)
    (turn : Turn issuer before (reading issuer line) given after) where
  record-stays : (shard place : ℕ) (answer : Answer) → IsRecordedAt (history_in before shard) place answer
      → IsRecordedAt (history_in after shard) place answer
  record-stays shard place answer recorded =
      let on = run-on issuer before (line ∷ []) (given ∷ []) after (after, turn, refl) in
      let was = record-in_book before shard place recorded.entry recorded.entry_is in
      let now = read-within after shard (let within = slice_get_within before shard was.0 was.1 in let count = on.count_is in omega (arith, within, count)) in
      record {
        entry = recorded.entry;
        entry_is =
            record-of_book after shard place recorded.entry now.0 now.1
            (goes-stays was.0.history now.0.history (on.on shard was.0 now.0 was.1 now.1) place recorded.entry was.2);
        its = recorded.its;
      }

  spot-stays : (answer : Answer) (at : Option (ℕ × ℕ)) → IfSome at (λ spot. IsRecordedAt (history_in before spot.0) spot.1 answer)
      → IfSome at (λ spot. IsRecordedAt (history_in after spot.0) spot.1 answer)
  spot-stays answer None recorded = tt
  spot-stays answer (Some spot) recorded = record-stays spot.0 spot.1 answer recorded

module _ {S : Type 0} {G : Ghosts S} where
  -- ---- the text of a block

  -- a host that was loaded owes no answer
  pub recorded-none : (issuer : Setup) (prefix : List ℕ) (logs : Logged) (olds : List S) (host loaded : Solo S G) → host ≡ loaded
      → IsReadySolo issuer prefix logs olds loaded → IsRecordedText host []
  recorded-none issuer prefix logs olds host loaded same ready =
      let begun = begins issuer prefix logs olds loaded.shards.items ready.shards in
      subst (λ (host : Solo S G). IsRecordedText host []) (sym same) (record {
        books = begun.books;
        stand = subst (λ (issuer : Setup). Stand issuer loaded.shards.items begun.books) (sym ready.issuer_is) begun.has_run.stand;
        answers = [];
        text_is = refl;
        recorded = λ place answer below. absurd (omega (arith, below));
      })

  -- no answer is due once all were written
  pub recorded-written : (host : Solo S G) (due : List ℕ) → IsRecordedText host due → IsRecordedText host []
  recorded-written host due so_far = record {
    books = so_far.books;
    stand = so_far.stand;
    answers = [];
    text_is = refl;
    recorded = λ place answer below. absurd (omega (arith, below));
  }

  -- the shards stay
  pub recorded-moved : (old new : Solo S G) → new.issuer ≡ old.issuer → new.shards.items ≡ old.shards.items → (due : List ℕ)
      → IsRecordedText old due → IsRecordedText new due
  recorded-moved old new same_issuer same_shards due so_far = record {
    books = so_far.books;
    stand = subst (λ (issuer : Setup). Stand issuer new.shards.items so_far.books) (sym same_issuer)
        (subst (λ (shards : List (Shard S G)). Stand old.issuer shards so_far.books) (sym same_shards) so_far.stand);
    answers = so_far.answers;
    text_is = so_far.text_is;
    recorded = so_far.recorded;
  }

  -- one answer more
  pub recorded-more : (old new : Solo S G) (line : List ℕ) (answer : Answer) (was_due is_due : List ℕ) → is_due ≡ was_due ++ printed answer
      → ((books : List ShardBook) → Stand old.issuer old.shards.items books
      → (after : List ShardBook) × Stand new.issuer new.shards.items after × Turn old.issuer books (reading old.issuer line) answer after)
      → IsRecordedText old was_due → IsRecordedText new is_due
  recorded-more old new line answer was_due is_due due turns so_far =
      let turn = turns so_far.books so_far.stand in
      record {
        books = turn.0;
        stand = turn.1;
        answers = so_far.answers ++ answer ∷ [];
        text_is = due ∙ ap (λ (text : List ℕ). text ++ printed answer) so_far.text_is ∙ sym (texts-more so_far.answers answer);
        recorded = All-push (λ answer. IsRecordedIn (history_in turn.0) answer) so_far.answers answer
            (λ place other below. spot-stays old.issuer so_far.books line answer turn.0 turn.2 (get_or so_far.answers place other)
            (record_in (get_or so_far.answers place other)) (so_far.recorded place other below))
            (turn-recorded old.issuer so_far.books (reading old.issuer line) answer turn.0 turn.2);
      }

  -- ---- that it is durable

  module _ (host : Solo S G) (books : List ShardBook) (stand : Stand host.issuer host.shards.items books) where
    record-durable : (number place : ℕ) (answer : Answer) → IsRecordedAt (history_in books number) place answer
        → (shard : Shard S G) × (history : List Entry) × (slice_get host.shards.items number ≡ Some shard)
        × StandsFor host.issuer shard history × IsDurableAt (disk_in shard) history place answer
    record-durable number place answer recorded =
        let book = record-in_book books number place recorded.entry recorded.entry_is in
        let within = slice_get_within books number book.0 book.1 in
        let count = stand.count_is in
        let shard = read-within host.shards.items number (omega (arith, within, count)) in
        let stands = (stand.each number shard.0 book.0 shard.1 book.1).stands in (
          shard.0,
          book.0.history,
          shard.1,
          stands,
          durable-at (disk_in shard.0) book.0.history stands.journal_holds.tail place answer stands.journal_holds.holds.disk_is
              (record { entry = recorded.entry; entry_is = book.2; its = recorded.its }),
        )

    spot-durable : (answer : Answer) (at : Option (ℕ × ℕ)) → IfSome at (λ spot. IsRecordedAt (history_in books spot.0) spot.1 answer)
        → IfSome at (λ spot. (shard : Shard S G) × (history : List Entry) × (slice_get host.shards.items spot.0 ≡ Some shard)
        × StandsFor host.issuer shard history × IsDurableAt (disk_in shard) history spot.1 answer)
    spot-durable answer None recorded = tt
    spot-durable answer (Some spot) recorded = record-durable spot.0 spot.1 answer recorded

  -- the record of each answer in the text is durable
  pub durable-text : (host : Solo S G) (text : List ℕ) → IsRecordedText host text → IsDurableText host text
  durable-text host text so_far = record {
    answers = so_far.answers;
    text_is = so_far.text_is;
    durable = λ place answer below.
        let given : Answer = get_or so_far.answers place answer in
        spot-durable host so_far.books so_far.stand given (record_in given) (so_far.recorded place answer below);
  }
