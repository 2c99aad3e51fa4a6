-- A run of a host from its loading on: it begins with the loaded books, and each store has its book's journal.
use Rattle.std.proofs.Common.{◌≡◌, ℕ, zero, suc, false, List, [], ◌∷◌, ◌++◌, length, map, Option, Some, refl, sym, subst, ◌∙◌, arith}
use Rattle.std.proofs.Common.{inl}
use Rattle.std.proofs.lemmas.List.{length-map}
use Rattle.std.proofs.lemmas.Option.{same_Some, slice_get_within}
use Rattle.std.specs.List.{slice_get}
use Rattle.issuer_base.specs.OutsideFaults.{CountsFaults}
use Rattle.issuer_base.specs.Stores.{BothTold, Disk, LeavesOnly}
use Rattle.issuer_base.proofs.Moments.{LeavesOnly-then, LeavesOnly-weaker}
use Rattle.issuer_base.proofs.ToldTwice.{BothTold-then}
use Rattle.issuer_base.specs.declared.answer.Answer.{Answer}
use Rattle.issuer_base.specs.declared.entry.Entry.{Entry}
use Rattle.issuer_base.specs.declared.outside.store.Store.{Ghosts}
use Rattle.issuer_setup.specs.IssuerSetup.{Setup}
use Rattle.journal_rec.specs.RecordText.{journal_text}
use Rattle.line_checks.specs.Reading.{reading}
use Rattle.journal_store.specs.declared.journal.Journal.{Journal}
use Rattle.journal_store.specs.Holding.{Holds}
use Rattle.shard_book.specs.declared.shard.Shard.{Shard}
use Rattle.shard_book.specs.Grounds.{IsTail, grounds_now}
use Rattle.shard_book.specs.Shards.{store_in, disk_in, faults_in, IsJournalOf, IsLoadImage}
use Rattle.shard_book.specs.Histories.{GoesOn, IsImageBetween}
use Rattle.shard_book.proofs.Histories.{goes-none, goes-then}
use Rattle.host_loading.specs.Books.{ShardBook}
use Rattle.host_loading.specs.Hosts.{AreShards, StandsForBook, Stand}
use Rattle.shard_book.specs.Loads.{IsLoadedFrom}
use Rattle.host_loading.specs.Loading.{AreLoaded}
use Rattle.one_caller.specs.OneHistory.{AreLegalBooks}
use Rattle.one_caller.specs.Runs.{HoldsJournal, HoldJournals, LeaveBetween, LeavesAnswering, HasRun}
use Rattle.one_caller.specs.Turns.{Turn, Run}
use Rattle.host_loading.proofs.Places.{read-within, read-map, choose}
use Rattle.one_caller.proofs.TurnSteps.{turn-adds}
use Rattle.one_caller.proofs.LegalBooks.{adds-goes_on}
use Rattle.host_loading.proofs.Loads.{loaded-are, shard-of}
use Rattle.one_caller.proofs.OneShard.{leave-uncalled}
use Rattle.one_caller.proofs.OwnTails.{own-more, run-long, safe-left}

-- ---- the books of shards that were loaded

-- the book is that of a store before its shard was loaded: the bytes of the old store and of the store were taken for the
-- book's history, which is legal since that of the old store, and no answer reported a fault; until the store's disk was
-- `opened`, a crash leaves what it might leave before, a prefix of the old history's text, or the history's text
pub record IsBookOf {S : Type 0} (bytes : S → Option (List ℕ)) (disk : S → Option Disk) (faults : S → ℕ) (issuer : Setup) (number : ℕ) (old store : S)
    (opened : Option Disk) (book : ShardBook) : Type 0 where
  pub old_history : List Entry
  pub journal_is : IsJournalOf issuer number (bytes old) (bytes store) old_history book.history
  pub leaves : BothTold (λ before after. LeavesOnly (IsLoadImage old_history book.history before.now) before after) (disk store) opened
  pub counts : CountsFaults (faults store) book.faults false
  pub untold : book.reported ≡ 0

module _ {S : Type 0} {G : Ghosts S} where
  -- a shard that was loaded stands for the book of its history
  pub stands-loaded : (issuer : Setup) (number : ℕ) (old old_then store : S) (shard : Shard S G) → (from : IsLoadedFrom issuer number old old_then store shard)
      → StandsForBook issuer shard (record { history = from.loaded.history; faults = faults_in shard; reported = 0 })
  stands-loaded issuer number old old_then store shard from = record {
    stands = from.loaded.stands;
    faults_are = refl;
    reported_are = from.untold;
    settled = λ untold. from.loaded.settled;
  }

  book-loaded : (issuer : Setup) (number : ℕ) (old old_then store : S) (shard : Shard S G) → (from : IsLoadedFrom issuer number old old_then store shard)
      → IsBookOf G.bytes G.disk G.faults issuer number old store (disk_in shard)
      (record { history = from.loaded.history; faults = faults_in shard; reported = 0 })
  book-loaded issuer number old old_then store shard from = record {
    old_history = from.loaded.old;
    journal_is = from.loaded.journal_is;
    leaves = from.leaves;
    counts = from.counts;
    untold = refl;
  }

  -- what a run begins with: the books of the stores
  pub record Begins (issuer : Setup) (olds stores : List S) (shards : List (Shard S G)) : Type 0 where
    pub books : List ShardBook
    pub has_run : HasRun issuer shards books [] [] shards books
    pub books_are : (number : ℕ) (old store : S) (shard : Shard S G) (book : ShardBook) → slice_get olds number ≡ Some old
        → slice_get stores number ≡ Some store → slice_get shards number ≡ Some shard → slice_get books number ≡ Some book
        → IsBookOf G.bytes G.disk G.faults issuer number old store (disk_in shard) book

  -- no lines were answered since the shards were loaded
  pub run-none : (issuer : Setup) (olds read stores : List S) (shards : List (Shard S G)) → length stores ≡ issuer.shards
      → AreLoaded issuer olds read stores shards → Begins issuer olds stores shards
  run-none issuer olds read stores shards long loaded =
      let count = loaded.count_is in
      let P : ℕ → Shard S G → ShardBook → Type 0 = λ number shard book.
      (old store : S) → slice_get olds number ≡ Some old → slice_get stores number ≡ Some store
      → StandsForBook issuer shard book × IsBookOf G.bytes G.disk G.faults issuer number old store (disk_in shard) book in
      let made = choose shards P (λ number shard shard_is.
      let its = shard-of issuer olds read stores shards loaded number shard shard_is in
      let book : ShardBook = record { history = its.from.loaded.history; faults = faults_in shard; reported = 0 } in (
        book,
        λ old store old_is store_is.
            subst (λ (old : S). StandsForBook issuer shard book × IsBookOf G.bytes G.disk G.faults issuer number old store (disk_in shard) book)
            (same_Some its.old old (sym its.old_is ∙ old_is))
            (subst (λ (store : S). StandsForBook issuer shard book × IsBookOf G.bytes G.disk G.faults issuer number its.old store (disk_in shard) book)
            (same_Some its.store store (sym its.store_is ∙ store_is))
            (stands-loaded issuer number its.old its.old_then its.store shard its.from, book-loaded issuer number its.old its.old_then its.store shard its.from)),
      )) in
      let stand : Stand issuer shards made.0 = record {
        count_is = made.1;
        each = λ number shard book shard_is book_is.
            let its = shard-of issuer olds read stores shards loaded number shard shard_is in
            (made.2 number shard book shard_is book_is its.old its.store its.old_is its.store_is).0;
      } in
      record {
        books = made.0;
        has_run = record {
          run = refl;
          stand = stand;
          leave = leave-uncalled issuer shards (loaded-are issuer olds read stores shards long loaded) made.0 stand;
          own_tails = λ number shard book shard_is book_is.
              let its = shard-of issuer olds read stores shards loaded number shard shard_is in
              let both = made.2 number shard book shard_is book_is its.old its.store its.old_is its.store_is in
              record { tail = []; has_tail = both.0.settled both.1.untold; own = inl refl };
        };
        books_are = λ number old store shard book old_is store_is shard_is book_is. (made.2 number shard book shard_is book_is old store old_is store_is).1;
      }

-- so legal books begin it
pub begins-legal : {S : Type 0} {G : Ghosts S} (issuer : Setup) (olds read stores : List S) (shards : List (Shard S G))
    → AreLoaded issuer olds read stores shards → (begins : Begins issuer olds stores shards) → AreLegalBooks issuer begins.books
begins-legal issuer olds read stores shards loaded begins number book book_is =
    let below = slice_get_within begins.books number book book_is in
    let stand = begins.has_run.stand in
    let long = stand.count_is in
    let shard = read-within shards number (omega arith) in
    let its = shard-of issuer olds read stores shards loaded number shard.0 shard.1 in
    (begins.books_are number its.old its.store shard.0 book its.old_is its.store_is shard.1 book_is).journal_is.since.legal

-- ---- one more line

-- a run is extended by a turn at its end
run-more : (issuer : Setup) (first : List ShardBook) (lines : List (List ℕ)) (answers : List Answer) (between : List ShardBook) (line : List ℕ) (answer : Answer)
    (after : List ShardBook) → Run issuer first lines answers between → Turn issuer between (reading issuer line) answer after
    → Run issuer first (lines ++ line ∷ []) (answers ++ answer ∷ []) after
run-more issuer first [] [] between line answer after so_far turn =
    (after, subst (λ (start : List ShardBook). Turn issuer start (reading issuer line) answer after) so_far turn, refl)
run-more issuer first [] (given ∷ answers) between line answer after so_far turn = absurd so_far
run-more issuer first (other ∷ lines) [] between line answer after so_far turn = absurd so_far
run-more issuer first (other ∷ lines) (given ∷ answers) between line answer after so_far turn =
    (so_far.0, so_far.1, run-more issuer so_far.0 lines answers between line answer after so_far.2 turn)

-- over a run each history is extended, and there are as many books as before
pub record HistoriesGoOn (first last : List ShardBook) : Type 0 where
  pub count_is : length last ≡ length first
  pub on : (number : ℕ) (was is : ShardBook) → slice_get first number ≡ Some was → slice_get last number ≡ Some is → GoesOn was.history is.history

turn-on : (issuer : Setup) (before : List ShardBook) (line : List ℕ) (answer : Answer) (after : List ShardBook) → Turn issuer before (reading issuer line) answer after
    → HistoriesGoOn before after
turn-on issuer before line answer after turn =
    let adds = turn-adds issuer before line answer after (reading issuer line) refl turn in
    record {
      count_is = adds.count_is;
      on = λ number was is was_is is_is. adds-goes_on issuer number was.history is.history (adds.adds number was is was_is is_is);
    }

pub run-on : (issuer : Setup) (first : List ShardBook) (lines : List (List ℕ)) (answers : List Answer) (last : List ShardBook) → Run issuer first lines answers last
    → HistoriesGoOn first last
run-on issuer first [] [] last run = subst (λ (last : List ShardBook). HistoriesGoOn first last) (sym run) (record {
  count_is = refl;
  on = λ number was is was_is is_is.
      subst (λ (is : ShardBook). GoesOn was.history is.history) (same_Some was is (sym was_is ∙ is_is)) (goes-none was.history);
})
run-on issuer first [] (answer ∷ answers) last run = absurd run
run-on issuer first (line ∷ lines) [] last run = absurd run
run-on issuer first (line ∷ lines) (answer ∷ answers) last (between, turn, rest) =
    let one = turn-on issuer first line answer between turn in
    let others = run-on issuer between lines answers last rest in
    let count = one.count_is in
    record {
      count_is = others.count_is ∙ count;
      on = λ number was is was_is is_is.
          let below = slice_get_within first number was was_is in
          let mid = read-within between number (omega arith) in
          goes-then was.history mid.0.history is.history (one.on number was mid.0 was_is mid.1) (others.on number mid.0 is mid.1 is_is);
    }

-- an image between two histories is one between histories farther apart
image-wider : (issuer : Setup) (shard : ℕ) (first from until last : List Entry) (image : List ℕ) → GoesOn first from → GoesOn until last
    → IsImageBetween issuer shard from until image → IsImageBetween issuer shard first last image
image-wider issuer shard first from until last image before after is = record {
  between = is.between;
  from_first = goes-then first from is.between before is.from_first;
  to_last = goes-then is.between until last is.to_last after;
  image_is = is.image_is;
}

module _ {S : Type 0} {G : Ghosts S} (issuer : Setup) (loaded : List (Shard S G)) (first : List ShardBook) (lines : List (List ℕ)) (answers : List Answer)
    (now : List (Shard S G)) (books : List ShardBook) (run : HasRun issuer loaded first lines answers now books) where
  leave-more : (new : List (Shard S G)) (after : List ShardBook) → Stand issuer new after → HistoriesGoOn books after
      → LeaveBetween issuer books books now new → LeaveBetween issuer first after loaded new
  leave-more new after stand on leave number before later was is before_is later_is was_is is_is =
      let below = slice_get_within after number is is_is in
      let count = on.count_is in
      let now_count = run.stand.count_is in
      let book = read-within books number (omega arith) in
      let mid = read-within now number (let at = slice_get_within books number book.0 book.1 in omega arith) in
      let one = run.leave number before mid.0 was book.0 before_is mid.1 was_is book.1 in
      let two = leave number mid.0 later book.0 book.0 mid.1 later_is book.1 book.1 in
      let so_far = (run-on issuer first lines answers books run.run).on number was book.0 was_is book.1 in
      let more = on.on number book.0 is book.1 is_is in
      let Between : List Entry → List Entry → List ℕ → Type 0 = λ start end image. IsImageBetween issuer number start end image in
      BothTold-then (LeavesOnly (Between was.history book.0.history)) (LeavesOnly (Between book.0.history book.0.history))
      (LeavesOnly (Between was.history is.history)) (disk_in before) (disk_in mid.0) (disk_in later)
      (λ x y z p q.
      LeavesOnly-then (Between was.history is.history) x y z
      (LeavesOnly-weaker (Between was.history book.0.history) (Between was.history is.history) x y
      (λ image. image-wider issuer number was.history was.history book.0.history is.history image (goes-none was.history) more) p)
      (LeavesOnly-weaker (Between book.0.history book.0.history) (Between was.history is.history) y z
      (λ image. image-wider issuer number was.history book.0.history book.0.history is.history image so_far more) q)) one two

  -- one more line was answered
  pub has_run-more : (line : List ℕ) (answer : Answer) (new : List (Shard S G)) (after : List ShardBook) → Stand issuer new after
      → Turn issuer books (reading issuer line) answer after → LeavesAnswering issuer (reading issuer line) answer books now new
      → HasRun issuer loaded first (lines ++ line ∷ []) (answers ++ answer ∷ []) new after
  has_run-more line answer new after stand turn leave = record {
    run = run-more issuer first lines answers books line answer after run.run turn;
    stand = stand;
    leave = leave-more new after stand (turn-on issuer books line answer after turn) leave.crash;
    own_tails =
        own-more issuer lines answers books now run.stand run.own_tails line answer new after (run-long issuer first lines answers books run.run) stand
        (turn-on issuer books line answer after turn).count_is turn leave.tails;
  }

-- ---- the journals

module _ {S : Type 0} {G : Ghosts S} (issuer : Setup) (number : ℕ) (book : ShardBook) (journal : Journal S G) where
  -- a store holds the journal of its shard's book
  pub holds-with : (tail : List ℕ) → IsTail (grounds_now issuer) number book.history tail → (book.reported ≡ 0 → tail ≡ [])
      → Holds journal (length book.history) (journal_text book.history) tail → HoldsJournal issuer number book (G.bytes journal.store) (G.disk journal.store)
  holds-with tail tail_is none holds = record {
    tail = tail;
    tail_is = tail_is;
    none = none;
    bytes_are = holds.bytes_are;
    leaves = safe-left (journal_text book.history) tail (G.disk journal.store) holds.disk_is;
  }

  holds-told : (told : ℕ) (tail : List ℕ) → book.reported ≡ told → IsTail (grounds_now issuer) number book.history tail
      → Holds journal (length book.history) (journal_text book.history) tail
      → (book.reported ≡ 0 → Holds journal (length book.history) (journal_text book.history) [])
      → HoldsJournal issuer number book (G.bytes journal.store) (G.disk journal.store)
  holds-told zero tail told_is tail_is holds settled = holds-with [] (inl refl) (λ untold. refl) (settled told_is)
  holds-told (suc told) tail told_is tail_is holds settled =
      holds-with tail tail_is (λ untold. let no = untold in absurd (omega (arith, told_is, no))) holds

module _ {S : Type 0} {G : Ghosts S} (issuer : Setup) (shards : List (Shard S G)) (books : List ShardBook) (are : AreShards issuer shards)
    (stand : Stand issuer shards books) where
  pub holds-journal : (number : ℕ) (shard : Shard S G) (book : ShardBook) → slice_get shards number ≡ Some shard → slice_get books number ≡ Some book
      → HoldsJournal issuer number book (G.bytes (store_in shard)) (G.disk (store_in shard))
  holds-journal number shard book shard_is book_is =
      let its = stand.each number shard book shard_is book_is in
      let holds = its.stands.journal_holds in
      holds-told issuer number book shard.journal book.reported holds.tail refl
      (subst (λ number. IsTail (grounds_now issuer) number book.history holds.tail) (are.numbers_are number shard shard_is) holds.tail_is)
      holds.holds its.settled

  -- so does each store of a host
  pub hold-journals : HoldJournals G.bytes G.disk issuer books (map (λ (shard : Shard S G). store_in shard) shards)
  hold-journals =
      let kept : Shard S G → S = λ shard. store_in shard in
      record {
        count_is = length-map shards kept ∙ sym stand.count_is;
        each = λ number book store book_is store_is.
            let below = slice_get_within books number book book_is in
            let count = stand.count_is in
            let shard = read-within shards number (omega arith) in
            let its : store_in shard.0 ≡ store = same_Some (store_in shard.0) store (sym (read-map kept shards number shard.0 shard.1) ∙ store_is) in
            subst (λ (store : S). HoldsJournal issuer number book (G.bytes store) (G.disk store)) its
            (holds-journal number shard.0 book shard.1 book_is);
      }
