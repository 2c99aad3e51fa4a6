-- Journals that are read again after they were loaded stay as loading left them, but for their counts of faults.
use Rattle.std.proofs.Common.{◌≡◌, ℕ, zero, suc, List, [], ◌∷◌, ◌++◌, length, map, Option, None, Some, IfSome}
use Rattle.std.proofs.Common.{refl, sym, ap, ap₂, subst, ◌∙◌, arith}
use Rattle.std.specs.List.{slice_get, Contains}
use Rattle.std.specs.Option.{option_map}
use Rattle.std.proofs.lemmas.List.Elements.{Contains-push}
use Rattle.std.proofs.lemmas.Option.{same_Some, slice_get-map, slice_get_within}
use Rattle.issuer_base.specs.Stores.{BothTold, Disk, Moment, MayLeave}
use Rattle.issuer_base.specs.declared.outside.store.Store.{Ghosts}
use Rattle.issuer_base.proofs.Moments.{LeavesOnly-passes, LeavesSince-then}
use Rattle.issuer_setup.specs.IssuerSetup.{Setup}
use Rattle.journal_rec.specs.RecordText.{journal_text}
use Rattle.journal_store.specs.Images.{IsImage, IsKept, OnlyReads}
use Rattle.shard_book.specs.Loads.{IsOnlyRead}
use Rattle.host_loading.specs.Books.{ShardBook, histories_of}
use Rattle.host_loading.specs.Loading.{AreOnlyRead}
use Rattle.one_caller.specs.Runs.{HoldsJournal}
use Rattle.desk_host.specs.SeenStores.{Logged, SeenStore, journals_seen, store_seen}
use Rattle.desk_host.specs.Journals.{journal_name, old_name}
use Rattle.desk_host.specs.Kept.{IsRunImage, KeepsJournal, KeepJournals}
use Rattle.desk_host.specs.Left.{CrashSince}
use Rattle.desk_host.proofs.CrashSteps.{kept-leaves, leaves-now}
use Rattle.desk_host.proofs.SeenSteps.{at-place, mapped, seen-store}

-- ---- a disk

last-moment : (past : List Moment) (now : Moment) → Contains (past ++ now ∷ []) now
last-moment past now = Contains-push past now

-- what a crash leaves since a journal was opened, once it was read again
crash-again : (P : Moment → List ℕ → Type 0) (held : Option (List ℕ)) (a b : Disk) → CrashSince P held a → OnlyReads a b
    → CrashSince P held b
crash-again P held a b since reads =
    let now : (image : List ℕ) → MayLeave a.now image → P since.opened image =
    λ image left. since.leaves.each image (a.now, last-moment a.past a.now, left) in
    let only = LeavesOnly-passes (IsKept a.now) (P since.opened) a b
    (λ moment image kept left. now image (kept-leaves a.now moment image kept left))
    (record { holds = refl; at_least = omega arith }) reads in
    record {
      opened = since.opened;
      later = since.later ++ reads.goes_on.added;
      moments = reads.goes_on.grown ∙ ap (λ l. l ++ reads.goes_on.added) since.moments;
      opened_is = since.opened_is;
      leaves = LeavesSince-then a b reads.goes_on 0 (omega arith) (P since.opened) since.leaves only.leaves;
    }

crash-told : (P : Moment → List ℕ → Type 0) (held : Option (List ℕ)) (a b : Option Disk) → IfSome a (CrashSince P held)
    → BothTold OnlyReads a b → IfSome b (CrashSince P held)
crash-told P held None None since reads = tt
crash-told P held None (Some b) since reads = absurd reads
crash-told P held (Some a) None since reads = tt
crash-told P held (Some a) (Some b) since reads = crash-again P held a b since reads

-- what it leaves now
image-told : (Q : List ℕ → Type 0) (a b : Option Disk) → IfSome a (λ disk. (image : List ℕ) → MayLeave disk.now image → Q image)
    → BothTold OnlyReads a b → IfSome b (λ disk. (image : List ℕ) → MayLeave disk.now image → Q image)
image-told Q None None leaves reads = tt
image-told Q None (Some b) leaves reads = absurd reads
image-told Q (Some a) None leaves reads = tt
image-told Q (Some a) (Some b) leaves reads =
    λ image left. leaves image (kept-leaves a.now b.now image reads.last left)

-- ---- a journal

-- the book with another count of faults
abbrev pub recounted : ShardBook → ℕ → ShardBook
recounted book faults = record { history = book.history; faults = faults; reported = book.reported }

module _ {S : Type 0} (G : Ghosts S) (issuer : Setup) (shard : ℕ) (store read : S)
    (only : IsOnlyRead G.size G.bytes G.disk G.room store read) where
  holds-again : (book : ShardBook) → HoldsJournal issuer shard book (G.bytes store) (G.disk store)
      → HoldsJournal issuer shard (recounted book (G.faults read)) (G.bytes read) (G.disk read)
  holds-again book holds = record {
    tail = holds.tail;
    tail_is = holds.tail_is;
    none = holds.none;
    bytes_are = subst (λ (b : Option (List ℕ)). IfSome b (IsImage (journal_text book.history) holds.tail)) (sym only.bytes_are)
        holds.bytes_are;
    leaves = image-told (λ image. IsImage (journal_text book.history) holds.tail image) (G.disk store) (G.disk read)
        holds.leaves only.disk_is;
  }

  pub keeps-again : (old_held held : Option (List ℕ)) (first last : ShardBook) (old_store : SeenStore)
      → KeepsJournal issuer shard old_held held first last old_store (store_seen G store)
      → KeepsJournal issuer shard old_held held first (recounted last (G.faults read)) old_store (store_seen G read)
  keeps-again old_held held first last old_store keeps =
      let holds = holds-again last keeps.holds in
      record {
        old = keeps.old;
        was = keeps.was;
        old_stays = keeps.old_stays;
        old_no_fault = keeps.old_no_fault;
        holds = holds;
        faults_are = refl;
        crash_now = leaves-now issuer shard (recounted last (G.faults read)) (G.bytes read) (G.disk read) holds;
        crash_since = crash-told (IsRunImage issuer shard keeps.old first.history last.history) held (G.disk store)
            (G.disk read) keeps.crash_since only.disk_is;
      }

-- ---- all journals

module _ {S : Type 0} (G : Ghosts S) where
  -- the books with the counts of these stores
  abbrev pub recounted_all : List ShardBook → List S → List ShardBook
  recounted_all [] stores = []
  recounted_all (book ∷ books) [] = []
  recounted_all (book ∷ books) (store ∷ stores) = recounted book (G.faults store) ∷ recounted_all books stores

  recounted-length : (books : List ShardBook) (stores : List S) → length books ≡ length stores
      → length (recounted_all books stores) ≡ length books
  recounted-length [] stores same = refl
  recounted-length (book ∷ books) [] same = absurd (omega (arith, same))
  recounted-length (book ∷ books) (store ∷ stores) same =
      ap suc (recounted-length books stores (omega (arith, same)))

  pub recounted-histories : (books : List ShardBook) (stores : List S) → length books ≡ length stores
      → histories_of (recounted_all books stores) ≡ histories_of books
  recounted-histories [] stores same = refl
  recounted-histories (book ∷ books) [] same = absurd (omega (arith, same))
  recounted-histories (book ∷ books) (store ∷ stores) same =
      ap (λ hs. book.history ∷ hs) (recounted-histories books stores (omega (arith, same)))

  recounted-at : (books : List ShardBook) (stores : List S) (n : ℕ) (book : ShardBook) (store : S) → slice_get books n ≡ Some book
      → slice_get stores n ≡ Some store → slice_get (recounted_all books stores) n ≡ Some (recounted book (G.faults store))
  recounted-at [] stores n book store book_is store_is = absurd (let e : None ≡ Some book = book_is in cc)
  recounted-at (first ∷ books) [] n book store book_is store_is = absurd (let e : None ≡ Some store = store_is in cc)
  recounted-at (first ∷ books) (one ∷ stores) zero book store book_is store_is =
      ap₂ (λ (b : ShardBook) (s : S). Some (recounted b (G.faults s))) (same_Some first book book_is) (same_Some one store store_is)
  recounted-at (first ∷ books) (one ∷ stores) (suc n) book store book_is store_is =
      recounted-at books stores n book store book_is store_is

  -- and how many calls reported a fault
  pub recounted-reported : (books : List ShardBook) (stores : List S) (n : ℕ) (book : ShardBook)
      → slice_get (recounted_all books stores) n ≡ Some book
      → (was : ShardBook) × (slice_get books n ≡ Some was) × (book.reported ≡ was.reported)
  recounted-reported [] stores n book book_is = absurd (let e : None ≡ Some book = book_is in cc)
  recounted-reported (first ∷ books) [] n book book_is = absurd (let e : None ≡ Some book = book_is in cc)
  recounted-reported (first ∷ books) (one ∷ stores) zero book book_is = (
    first,
    refl,
    ap (λ (b : ShardBook). b.reported) (sym (same_Some (recounted first (G.faults one)) book book_is)),
  )
  recounted-reported (first ∷ books) (one ∷ stores) (suc n) book book_is =
      recounted-reported books stores n book book_is

  -- the journals are kept, with the same histories
  pub keep-again : (issuer : Setup) (prefix : List ℕ) (logs : Logged) (olds stores read : List S) (first last : List ShardBook)
      → KeepJournals issuer prefix logs (journals_seen G olds stores) first last
      → AreOnlyRead G.size G.bytes G.disk G.room stores read
      → KeepJournals issuer prefix logs (journals_seen G olds read) first (recounted_all last read)
  keep-again issuer prefix logs olds stores read first last kept only =
      let many : length last ≡ length read =
      kept.last_are ∙ sym kept.stores_are ∙ mapped (store_seen G) stores ∙ sym only.count_is in
      record {
        olds_are = kept.olds_are;
        stores_are = mapped (store_seen G) read ∙ only.count_is ∙ sym (mapped (store_seen G) stores) ∙ kept.stores_are;
        first_are = kept.first_are;
        last_are = recounted-length last read many ∙ kept.last_are;
        each = λ shard was is old seen was_at is_at old_at seen_at.
            let there = seen-store G read shard seen seen_at in
            let within = slice_get_within read shard there.0 there.1 in
            let count = only.count_is in
            let book = at-place last shard (omega (arith, within, many)) in
            let store = at-place stores shard (omega (arith, within, count)) in
            let its : recounted book.0 (G.faults there.0) ≡ is =
            same_Some _ is (sym (recounted-at last read shard book.0 there.0 book.1 there.1) ∙ is_at) in
            let seen_before : slice_get (map (store_seen G) stores) shard ≡ Some (store_seen G store.0) =
            slice_get-map (store_seen G) stores shard ∙ ap (option_map (store_seen G)) store.1 in
            subst (λ (s : SeenStore). KeepsJournal issuer shard (logs (old_name prefix shard)) (logs (journal_name prefix shard)) was is old s)
            there.2
            (subst (λ (b : ShardBook). KeepsJournal issuer shard (logs (old_name prefix shard)) (logs (journal_name prefix shard)) was b old
            (store_seen G there.0)) its
            (keeps-again G issuer shard store.0 there.0 (only.each shard store.0 there.0 store.1 there.1) _ _ was book.0 old
            (kept.each shard was book.0 old (store_seen G store.0) was_at book.1 old_at seen_before)));
      }
