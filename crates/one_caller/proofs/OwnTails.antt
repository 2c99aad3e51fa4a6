-- What is in doubt once one more line was answered.
use Rattle.std.proofs.Common.{◌≡◌, ℕ, List, [], ◌∷◌, ◌++◌, length, set, suc, Some, Result, Ok, Err, IfSome, Option, None}
use Rattle.std.proofs.Common.{refl, sym, ap, subst, ◌∙◌, inl, inr, arith}
use Rattle.std.proofs.lemmas.Bool.{cases_eq}
use Rattle.std.proofs.lemmas.Option.{same_Some, slice_get_within}
use Rattle.std.specs.List.{slice_get}
use Rattle.issuer_base.specs.Stores.{Disk, MayLeave}
use Rattle.issuer_base.specs.declared.answer.Answer.{Answer}
use Rattle.issuer_base.specs.declared.answer.Answer.TheVariants.{Fresh, Kept, Queued as WasQueued, Set, Refused}
use Rattle.issuer_base.specs.declared.answer.Refusal.{Refusal}
use Rattle.issuer_base.specs.declared.answer.Refusal.TheVariants.{Below, Taken, QueueFull, Pending, StoreFault}
use Rattle.issuer_base.specs.declared.entry.Entry.{Entry}
use Rattle.issuer_base.specs.declared.entry.Entry.TheVariants.{Decided, Queued, Status as IsStatus}
use Rattle.issuer_base.specs.declared.outside.store.Store.{Ghosts}
use Rattle.card_history.specs.declared.decision.Asked.{Asked}
use Rattle.card_history.specs.declared.decision.Asked.TheVariants.{Decide, Queue, Status}
use Rattle.issuer_setup.specs.IssuerSetup.{Setup, shard_of}
use Rattle.journal_rec.specs.RecordText.{journal_text, text_of}
use Rattle.journal_store.specs.Images.{HasSafeText, IsImage}
use Rattle.journal_store.proofs.Passing.{leaves-image}
use Rattle.line_checks.specs.Reading.{reading}
use Rattle.shard_book.specs.declared.shard.Shard.{Shard}
use Rattle.shard_book.specs.Answering.{LeavesTail}
use Rattle.shard_book.specs.Replying.{reply_to}
use Rattle.shard_book.specs.Shards.{HasTail, store_in}
use Rattle.host_loading.specs.Books.{ShardBook}
use Rattle.host_loading.specs.Hosts.{Stand}
use Rattle.host_loading.proofs.Places.{read-front, read-other, read-within, read-written}
use Rattle.one_caller.specs.OwnTails.{record_asked, IsOwnTail, HasOwnTail, HaveOwnTails, LeavesTailOf, LeaveTails}
use Rattle.one_caller.specs.Runs.{HoldsOwnTail}
use Rattle.one_caller.specs.Turns.{card_asked, AnswersAsked, Turn, Run}

-- a crash leaves a durable text, and a prefix of what may be after it
pub safe-left : (text tail : List ℕ) (disk : Option Disk) → IfSome disk (λ disk. HasSafeText text tail disk.now)
    → IfSome disk (λ disk. (image : List ℕ) → MayLeave disk.now image → IsImage text tail image)
safe-left text tail None safe = tt
safe-left text tail (Some disk) safe = λ image left. leaves-image text tail disk.now image safe left

-- the element that was appended
at-end : {X : Type 0} (xs : List X) (x : X) → slice_get (xs ++ x ∷ []) (length xs) ≡ Some x
at-end [] x = refl
at-end (y ∷ xs) x = at-end xs x

-- a run has as many answers as lines
pub run-long : (issuer : Setup) (first : List ShardBook) (lines : List (List ℕ)) (answers : List Answer) (last : List ShardBook) → Run issuer first lines answers last
    → length answers ≡ length lines
run-long issuer first [] [] last run = refl
run-long issuer first [] (answer ∷ answers) last run = absurd run
run-long issuer first (line ∷ lines) [] last run = absurd run
run-long issuer first (line ∷ lines) (answer ∷ answers) last run = ap suc (run-long issuer run.0 lines answers last run.2)

module _ (issuer : Setup) (number : ℕ) (lines : List (List ℕ)) (answers : List Answer) (line : List ℕ) (answer : Answer) where
  -- what was such a record is one with a line more
  pub own-later : (history : List Entry) (tail : List ℕ) → IsOwnTail issuer number lines answers history tail
      → IsOwnTail issuer number (lines ++ line ∷ []) (answers ++ answer ∷ []) history tail
  own-later history tail own = elim own [
    | inl none ↦ inl none
    | inr its ↦ inr (record {
      index = its.index;
      line = its.line;
      asked = its.asked;
      line_is = read-front lines (line ∷ []) its.index its.line its.line_is;
      answer_is = read-front answers (answer ∷ []) its.index (Refused StoreFault) its.answer_is;
      asked_is = its.asked_is;
      home = its.home;
      text_is = its.text_is;
    })
  ]

module _ {S : Type 0} {G : Ghosts S} (issuer : Setup) (number : ℕ) (lines : List (List ℕ)) (answers : List Answer) (line : List ℕ) (new : Shard S G) where
  -- nothing is in doubt once a record was added
  settled : (answer : Answer) (before after : List Entry) (entry : Entry) → after ≡ before ++ entry ∷ [] → HasTail new (before ++ entry ∷ []) []
      → HasOwnTail issuer number (lines ++ line ∷ []) (answers ++ answer ∷ []) after new
  settled answer before after entry after_is has = record {
    tail = [];
    has_tail = subst (λ (history : List Entry). HasTail new history []) (sym after_is) has;
    own = inl refl;
  }

  -- what was in doubt is
  kept : (answer : Answer) (before after : List Entry) (tail : List ℕ) → after ≡ before → HasTail new before tail
      → IsOwnTail issuer number lines answers before tail → HasOwnTail issuer number (lines ++ line ∷ []) (answers ++ answer ∷ []) after new
  kept answer before after tail after_is has own =
      subst (λ (history : List Entry). HasOwnTail issuer number (lines ++ line ∷ []) (answers ++ answer ∷ []) history new) (sym after_is)
      (record { tail = tail; has_tail = has; own = own-later issuer number lines answers line answer before tail own })

  -- or the record that was asked for, where the store failed
  failed : (asked : Asked) → length answers ≡ length lines → reading issuer line ≡ Ok asked → shard_of issuer (card_asked asked) ≡ number
      → (before after : List Entry) (tail : List ℕ) → after ≡ before → LeavesTail (record_asked issuer before asked) before tail (Refused StoreFault) new
      → IsOwnTail issuer number lines answers before tail
      → HasOwnTail issuer number (lines ++ line ∷ []) (answers ++ Refused StoreFault ∷ []) after new
  failed asked long asks home before after tail after_is left own = elim left [
    | inl has ↦ kept (Refused StoreFault) before after tail after_is has own
    | inr has ↦
        subst (λ (history : List Entry). HasOwnTail issuer number (lines ++ line ∷ []) (answers ++ Refused StoreFault ∷ []) history new) (sym after_is)
        (record {
          tail = text_of (record_asked issuer before asked);
          has_tail = has;
          own = inr (record {
            index = length lines;
            line = line;
            asked = asked;
            line_is = at-end lines line;
            answer_is = subst (λ (n : ℕ). slice_get (answers ++ Refused StoreFault ∷ []) n ≡ Some (Refused StoreFault)) long (at-end answers (Refused StoreFault));
            asked_is = asks;
            home = home;
            text_is = refl;
          });
        })
  ]

  -- so it is in the shard of the line's card, by what it asks and its answer
  in-home : (asked : Asked) (answer : Answer) → length answers ≡ length lines → reading issuer line ≡ Ok asked → shard_of issuer (card_asked asked) ≡ number
      → (at : ℕ) (before after : List Entry) (tail : List ℕ) → AnswersAsked issuer asked answer at before after
      → LeavesTail (record_asked issuer before asked) before tail answer new → IsOwnTail issuer number lines answers before tail
      → HasOwnTail issuer number (lines ++ line ∷ []) (answers ++ answer ∷ []) after new
  in-home (Decide request) (Fresh shard place reply) long asks home at before after tail (won, (unused, at_is, place_is, reply_is, after_is)) left own =
      settled (Fresh shard place reply) before after (Decided request (reply_to issuer before request))
      (after_is ∙ ap (λ reply. before ++ Decided request reply ∷ []) reply_is) left
  in-home (Decide request) (Kept shard place reply) long asks home at before after tail (used, at_is, after_is) left own =
      kept (Kept shard place reply) before after tail after_is left own
  in-home (Decide request) (Refused (Below top)) long asks home at before after tail (old, after_is) left own =
      kept (Refused (Below top)) before after tail after_is left own
  in-home (Decide request) (Refused (Taken shard place)) long asks home at before after tail (taken, at_is, after_is) left own =
      kept (Refused (Taken shard place)) before after tail after_is left own
  in-home (Decide request) (Refused Pending) long asks home at before after tail (lost, unused, after_is) left own =
      kept (Refused Pending) before after tail after_is left own
  in-home (Decide request) (Refused StoreFault) long asks home at before after tail (won, unused, after_is) left own =
      failed (Decide request) long asks home before after tail after_is left own
  in-home (Decide request) answer long asks home at before after tail answered left own = absurd answered
  in-home (Queue pan psn command) (WasQueued shard place) long asks home at before after tail (room, at_is, place_is, after_is) left own =
      settled (WasQueued shard place) before after (Queued pan psn command) after_is left
  in-home (Queue pan psn command) (Refused QueueFull) long asks home at before after tail (full, after_is) left own =
      kept (Refused QueueFull) before after tail after_is left own
  in-home (Queue pan psn command) (Refused StoreFault) long asks home at before after tail (room, after_is) left own =
      failed (Queue pan psn command) long asks home before after tail after_is left own
  in-home (Queue pan psn command) answer long asks home at before after tail answered left own = absurd answered
  in-home (Status pan psn status) (Set shard place) long asks home at before after tail (at_is, place_is, after_is) left own =
      settled (Set shard place) before after (IsStatus pan psn status) after_is left
  in-home (Status pan psn status) (Refused StoreFault) long asks home at before after tail after_is left own =
      failed (Status pan psn status) long asks home before after tail after_is left own
  in-home (Status pan psn status) answer long asks home at before after tail answered left own = absurd answered

  -- a line more was answered, with these books before and after
  tail-more : (asked : Result Asked Refusal) (answer : Answer) → length answers ≡ length lines → reading issuer line ≡ asked → (books later : List ShardBook)
      → Turn issuer books asked answer later → (was is : ShardBook) → slice_get books number ≡ Some was → slice_get later number ≡ Some is
      → (tail : List ℕ) → LeavesTailOf issuer asked number was.history tail answer new → IsOwnTail issuer number lines answers was.history tail
      → HasOwnTail issuer number (lines ++ line ∷ []) (answers ++ answer ∷ []) is.history new
  tail-more (Err refusal) answer long asks books later turn was is was_is is_is tail left own =
      let same : is.history ≡ was.history =
      ap (λ (book : ShardBook). book.history) (same_Some is was (sym is_is ∙ ap (λ (books : List ShardBook). slice_get books number) turn.1 ∙ was_is)) in
      kept answer was.history is.history tail same left own
  tail-more (Ok asked) answer long asks books later turn was is was_is is_is tail left own =
      let home = shard_of issuer (card_asked asked) in
      let set_is : slice_get later number ≡ slice_get (set books home turn.new) number =
      ap (λ (books : List ShardBook). slice_get books number) turn.after_is in
      elim (cases_eq number home) [
        | inl same ↦
            let was_at : turn.old ≡ was = same_Some turn.old was (sym turn.old_is ∙ subst (λ n. slice_get books n ≡ Some was) same was_is) in
            let within = slice_get_within books home turn.old turn.old_is in
            let is_at : turn.new ≡ is = same_Some turn.new is (sym (read-written books home turn.new within)
            ∙ subst (λ n. slice_get (set books home turn.new) n ≡ Some is) same (sym set_is ∙ is_is)) in
            in-home asked answer long asks (sym same) home was.history is.history tail
            (subst (λ (book : ShardBook). AnswersAsked issuer asked answer home was.history book.history) is_at
            (subst (λ (book : ShardBook). AnswersAsked issuer asked answer home book.history turn.new.history) was_at turn.changes))
            (left.home (sym same)) own
        | inr apart ↦
            let same : is.history ≡ was.history =
            ap (λ (book : ShardBook). book.history) (same_Some is was (sym is_is ∙ set_is ∙ read-other books home turn.new number apart ∙ was_is)) in
            kept answer was.history is.history tail same (left.other (λ at. apart (sym at))) own
      ]

module _ {S : Type 0} {G : Ghosts S} (issuer : Setup) (lines : List (List ℕ)) (answers : List Answer) (books : List ShardBook) (now : List (Shard S G))
    (stand : Stand issuer now books) (own : HaveOwnTails issuer lines answers books now) where
  -- and so in each shard
  pub own-more : (line : List ℕ) (answer : Answer) (new : List (Shard S G)) (after : List ShardBook) → length answers ≡ length lines → Stand issuer new after
      → length after ≡ length books → Turn issuer books (reading issuer line) answer after → LeaveTails issuer (reading issuer line) answer books now new
      → HaveOwnTails issuer (lines ++ line ∷ []) (answers ++ answer ∷ []) after new
  own-more line answer new after long later count turn leave number shard book shard_is book_is =
      let below = slice_get_within after number book book_is in
      let now_count = stand.count_is in
      let was = read-within books number (omega arith) in
      let mid = read-within now number (let at = slice_get_within books number was.0 was.1 in omega arith) in
      let its = own number mid.0 was.0 mid.1 was.1 in
      tail-more issuer number lines answers line shard (reading issuer line) answer long refl books after turn was.0 book was.1 book_is its.tail
      (leave number mid.0 shard was.0 its.tail mid.1 shard_is was.1 its.has_tail) its.own

  -- what the store of a shard holds
  pub holds-own_tail : (number : ℕ) (shard : Shard S G) (book : ShardBook) → slice_get now number ≡ Some shard → slice_get books number ≡ Some book
      → HoldsOwnTail issuer number lines answers book.history (G.bytes (store_in shard)) (G.disk (store_in shard))
  holds-own_tail number shard book shard_is book_is =
      let its = own number shard book shard_is book_is in
      record {
        tail = its.tail;
        own = its.own;
        bytes_are = its.has_tail.bytes_are;
        leaves = safe-left (journal_text book.history) its.tail (G.disk (store_in shard)) its.has_tail.disk_is;
      }
