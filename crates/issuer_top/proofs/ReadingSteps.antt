-- Journals that were loaded, and read again from their stores.
use Rattle.std.proofs.Common.{◌≡◌, ℕ, ◌<◌, ◌==◌, Bool, ◌&&◌, true, false, List, [], ◌++◌, length, take, map, Option, None, Some}
use Rattle.std.proofs.Common.{Err, IfSome, refl, sym, ap, subst, ◌∙◌, arith, append-nil}
use Rattle.std.specs.Prelude.{MatchBool}
use Rattle.std.specs.List.{slice_get}
use Rattle.std.specs.Option.{option_map}
use Rattle.std.proofs.lemmas.Bool.{true≢false}
use Rattle.std.proofs.lemmas.Option.{slice_get-map, slice_get_within}
use Rattle.std.proofs.Math.Seq.{take-nil}
use Rattle.std.proofs.lemmas.List.Elements.{All-nil}
use Rattle.issuer_base.specs.OutsideFaults.{Rose, CountsFaults}
use Rattle.issuer_base.specs.declared.entry.Entry.{Entry}
use Rattle.issuer_base.specs.declared.outside.store.Store.{Ghosts}
use Rattle.issuer_base.proofs.ManyCalls.{Rose-from_none}
use Rattle.issuer_setup.specs.IssuerSetup.{Setup}
use Rattle.journal_rec.specs.RecordText.{journal_text}
use Rattle.journal_store.specs.Images.{IsImage}
use Rattle.shard_book.specs.declared.replay.Version.TheVariants.{Two}
use Rattle.shard_book.proofs.Exactly.{same-text}
use Rattle.host_loading.specs.Books.{ShardBook}
use Rattle.host_loading.specs.Loading.{AreOnlyRead}
use Rattle.journal_reader.specs.Reading.{has_failed}
use Rattle.journal_reader.specs.declared.reader.RecordFault.{RecordFault}
use Rattle.journal_reader.specs.declared.reader.RecordFault.TheVariants.{StoreFault as ReadingFails, BadLine as ReadsBad}
use Rattle.journal_reader.specs.Filing.{CountAt, HasRecords, HaveRecords, IsSpared, fault_of, is_bad, is_store_fault}
use Rattle.journal_reader.specs.declared.filing.FilingFault.{FilingFault}
use Rattle.journal_reader.specs.declared.filing.FilingFault.TheVariants.{StoreFault as StoreFails, BadLine}
use Rattle.journal_reader.specs.declared.filing.FilingFault.TheVariants.{NoMemory as NoRoom}
use Rattle.line_serving.specs.Loaded.{AreLoadedFrom}
use Rattle.line_serving.proofs.ReadAgain.{keep-again, recounted_all, recounted-histories, recounted-reported}
use Rattle.desk_host.specs.SeenStores.{Logged, SeenStore, journals_seen, store_seen}
use Rattle.desk_host.specs.Journals.{old_name, journal_name}
use Rattle.desk_host.specs.Kept.{KeepsJournal}
use Rattle.desk_host.proofs.SeenSteps.{at-place, mapped, seen-store}
use Rattle.issuer_top.specs.ReadAgain.{StayLoaded, AreRead, FailOnlyAt, ReadsAs, StopsReading, failed_at, none_fails}

-- a count that was none
counted-from : (failed : Bool) (before after : ℕ) → before ≡ 0
    → MatchBool failed (Rose before after) (after ≡ before) → MatchBool failed (0 < after) (after ≡ 0)
counted-from true before after none rose = Rose-from_none after (subst (λ n. Rose n after) none rose)
counted-from false before after none same = same ∙ none

-- stores that failed where others are said to
pub fail-same : (stores : List SeenStore) (failed others : ℕ → Bool) → ((shard : ℕ) → failed shard ≡ others shard)
    → FailOnlyAt stores failed → FailOnlyAt stores others
fail-same stores failed others same fail = record {
  each = λ shard store at.
      subst (λ b. MatchBool b (0 < store.faults) (store.faults ≡ 0)) (same shard) (fail.each shard store at);
}

and_true : (b : Bool) → (b && true) ≡ b
and_true true = refl
and_true false = refl

and_false : (b : Bool) → (b && false) ≡ false
and_false true = refl
and_false false = refl

-- whose store failed
pub recorded-at : (fault : RecordFault) (shard number : ℕ)
    → ((shard == number) && has_failed {X = Unit {0}} (Err fault)) ≡ failed_at (fault_of fault) shard number
recorded-at ReadingFails shard number = and_true (shard == number)
recorded-at (ReadsBad line) shard number = and_false (shard == number)

pub fails-at : (fault : FilingFault) (shard number : ℕ)
    → ((shard == number) && is_store_fault {X = Unit {0}} (Err fault)) ≡ failed_at fault shard number
fails-at StoreFails shard number = and_true (shard == number)
fails-at (BadLine line) shard number = and_false (shard == number)
fails-at NoRoom shard number = and_false (shard == number)

module _ {S : Type 0} (G : Ghosts S) (issuer : Setup) (prefix : List ℕ) (logs : Logged) (olds stores : List S)
    (loaded : AreLoadedFrom issuer prefix logs (journals_seen G olds stores)) where
  pub stores-count : length stores ≡ issuer.shards
  stores-count = sym (mapped (store_seen G) stores) ∙ loaded.kept.stores_are

  seen-there : (shard : ℕ) (store : S) → slice_get stores shard ≡ Some store
      → slice_get (map (store_seen G) stores) shard ≡ Some (store_seen G store)
  seen-there shard store at = slice_get-map (store_seen G) stores shard ∙ ap (option_map (store_seen G)) at

  -- a store and its book
  pub record IsAt (shard : ℕ) (store : S) (book : ShardBook) : Type 0 where
    pub old : SeenStore
    pub keeps : KeepsJournal issuer shard (logs (old_name prefix shard)) (logs (journal_name prefix shard)) book book old
        (store_seen G store)

  is-at : (shard : ℕ) (store : S) (book : ShardBook) → shard < issuer.shards → slice_get stores shard ≡ Some store
      → slice_get loaded.books shard ≡ Some book → IsAt shard store book
  is-at shard store book within store_at book_at =
      let count = loaded.kept.olds_are in
      let old = at-place (map (store_seen G) olds) shard (omega (arith, within, count)) in
      record {
        old = old.0;
        keeps =
            loaded.kept.each shard book book old.0 (store_seen G store) book_at book_at old.1
            (seen-there shard store store_at);
      }

  pub none-reported : (shard : ℕ) (book : ShardBook) → slice_get loaded.books shard ≡ Some book → book.reported ≡ 0
  none-reported shard book book_at =
      let within = slice_get_within loaded.books shard book book_at in
      let books = loaded.kept.first_are in
      let count = stores-count in
      let store = at-place stores shard (omega (arith, within, books, count)) in
      (is-at shard store.0 book (omega (arith, within, books)) store.1 book_at).keeps.was.none_reported

  -- the count of a store was none
  none-counted : (shard : ℕ) (store : S) → slice_get stores shard ≡ Some store → G.faults store ≡ 0
  none-counted shard store store_at =
      let within = slice_get_within stores shard store store_at in
      let books = loaded.kept.first_are in
      let count = stores-count in
      let book = at-place loaded.books shard (omega (arith, within, books, count)) in
      let at = is-at shard store book.0 (omega (arith, within, count)) store_at book.1 in
      at.keeps.faults_are ∙ at.keeps.was.no_fault

  pub stay-loaded : StayLoaded issuer prefix logs (journals_seen G olds stores)
  stay-loaded = record {
    first = loaded.books;
    last = loaded.books;
    kept = loaded.kept;
    same = refl;
    none_reported = none-reported;
    lawful = loaded.lawful;
  }

  -- no store failed
  pub stood-loaded : FailOnlyAt (map (store_seen G) stores) none_fails
  stood-loaded = record {
    each = λ shard seen seen_at.
        let there = seen-store G stores shard seen seen_at in
        subst (λ (s : SeenStore). s.faults ≡ 0) there.2 (none-counted shard there.0 there.1);
  }

  -- the text of its book's history is all that a store holds
  pub holds-text : (shard : ℕ) (store : S) (book : ShardBook) (at : IsAt shard store book) (bytes : List ℕ)
      → G.bytes store ≡ Some bytes → bytes ≡ journal_text book.history
  holds-text shard store book at bytes told =
      let holds = at.keeps.holds in
      let none = holds.none at.keeps.was.none_reported in
      let image = subst (λ (b : Option (List ℕ)). IfSome b (IsImage (journal_text book.history) holds.tail)) told
      holds.bytes_are in
      image.1 ∙ ap (λ (t : List ℕ). journal_text book.history ++ take image.0 t) none
      ∙ ap (λ (t : List ℕ). journal_text book.history ++ t) (take-nil image.0)
      ∙ append-nil (journal_text book.history)

  module _ (read : List S) (only : AreOnlyRead G.size G.bytes G.disk G.room stores read) where
    pub read-count : length loaded.books ≡ length read
    read-count = loaded.kept.first_are ∙ sym stores-count ∙ sym only.count_is

    unfoldable pub stay-again : StayLoaded issuer prefix logs (journals_seen G olds read)
    stay-again = record {
      first = loaded.books;
      last = recounted_all G loaded.books read;
      kept = keep-again G issuer prefix logs olds stores read loaded.books loaded.books loaded.kept only;
      same = recounted-histories G loaded.books read read-count;
      none_reported = λ shard book book_at.
          let was = recounted-reported G loaded.books read shard book book_at in
          was.2 ∙ none-reported shard was.0 was.1;
      lawful = loaded.lawful;
    }

    -- a store that was read again
    record IsRead (shard : ℕ) (store : S) : Type 0 where
      before : S
      before_at : slice_get stores shard ≡ Some before
      bytes_are : G.bytes store ≡ G.bytes before

    is-read : (shard : ℕ) (store : S) → slice_get read shard ≡ Some store → IsRead shard store
    is-read shard store at =
        let within = slice_get_within read shard store at in
        let count = only.count_is in
        let before = at-place stores shard (omega (arith, within, count)) in
        record {
          before = before.0;
          before_at = before.1;
          bytes_are = (only.each shard before.0 store before.1 at).bytes_are;
        }

    -- the stores that failed have counted it, and no other has
    pub fail-read : (failed : ℕ → Bool) → CountAt G.faults stores read failed
        → FailOnlyAt (map (store_seen G) read) failed
    fail-read failed count = record {
      each = λ shard seen seen_at.
          let there = seen-store G read shard seen seen_at in
          let its = is-read shard there.0 there.1 in
          subst (λ (s : SeenStore). MatchBool (failed shard) (0 < s.faults) (s.faults ≡ 0)) there.2
          (counted-from (failed shard) (G.faults its.before) (G.faults there.0)
          (none-counted shard its.before its.before_at)
          (count shard its.before there.0 its.before_at there.1).counted);
    }

    -- the history that was filed is that of the book
    one-history : (shard : ℕ) (store : S) (book : ShardBook) (history : List Entry) (bytes : Option (List ℕ))
        → IsAt shard store book → G.bytes store ≡ bytes → HasRecords bytes history
        → IfSome bytes (λ told. history ≡ book.history)
    one-history shard store book history None at told has = tt
    one-history shard store book history (Some bytes) at told has =
        same-text Two history book.history bytes has.records at.keeps.was.journal_is.records has.text_is
        (record {
          rest = [];
          text_is = holds-text shard store book at bytes told ∙ sym (append-nil (journal_text book.history));
          unbroken = All-nil _;
        })

    -- what was read of a store compares so with its book's history
    pub reads-as : (Compares : List Entry → List Entry → Type 0) (shard : ℕ) (history : List Entry)
        → ((store : S) (book : ShardBook) → slice_get stores shard ≡ Some store → IsAt shard store book
        → IfSome (G.bytes store) (λ told. Compares history book.history))
        → ReadsAs Compares (journals_seen G olds read) loaded.books shard history
    reads-as Compares shard history compares seen book seen_at book_at =
        let there = seen-store G read shard seen seen_at in
        let its = is-read shard there.0 there.1 in
        let within = slice_get_within stores shard its.before its.before_at in
        let count = stores-count in
        let at = is-at shard its.before book (omega (arith, within, count)) its.before_at book_at in
        subst (λ (s : SeenStore). IfSome s.bytes (λ told. Compares history book.history)) there.2
        (subst (λ (b : Option (List ℕ)). IfSome b (λ told. Compares history book.history)) (sym its.bytes_are)
        (compares its.before book its.before_at at))

    -- a history that a store has is that of its book
    pub reads-whole : (shard : ℕ) (history : List Entry)
        → ((store : S) → slice_get stores shard ≡ Some store → HasRecords (G.bytes store) history)
        → ReadsAs (λ read whole. read ≡ whole) (journals_seen G olds read) loaded.books shard history
    reads-whole shard history has =
        reads-as (λ read whole. read ≡ whole) shard history
        (λ store book store_at at. one-history shard store book history (G.bytes store) at refl (has store store_at))

    pub are-read : (histories : List (List Entry)) → HaveRecords G.bytes stores histories
        → AreRead (journals_seen G olds read) loaded.books histories
    are-read histories have = record {
      count_is = have.count_is ∙ stores-count ∙ sym loaded.kept.first_are;
      each = λ shard history history_at.
          reads-whole shard history (λ store store_at. have.each shard store history store_at history_at);
    }

    -- the journals couldn't be read on
    module _ (shard : ℕ) (within : shard < issuer.shards) where
      bytes-unknown : (store : S) (book : ShardBook) (bytes : Option (List ℕ)) (fault : FilingFault) → is_bad fault ≡ true
          → slice_get stores shard ≡ Some store → IsAt shard store book → G.bytes store ≡ bytes
          → IsSpared G.bytes issuer stores shard fault → bytes ≡ None
      bytes-unknown store book None fault bad store_at at told spared = refl
      bytes-unknown store book (Some bytes) fault bad store_at at told spared =
          let journal = at.keeps.was.journal_is in
          let good : is_bad fault ≡ false =
          spared store book.history store_at
          (record {
            bytes_are = told ∙ ap Some (holds-text shard store book at bytes told);
            records = journal.records;
            legal = journal.since.legal;
          }) in
          absurd (true≢false (sym bad ∙ good))

      pub stops-reading : (fault : FilingFault) → IsSpared G.bytes issuer stores shard fault
          → ((before after : S) → slice_get stores shard ≡ Some before → slice_get read shard ≡ Some after
          → CountsFaults (G.faults before) (G.faults after) (is_store_fault {X = Unit {0}} (Err fault)))
          → StopsReading (map (store_seen G) read) shard fault
      stops-reading fault spared count =
          let many = stores-count in
          let again = only.count_is in
          let books = loaded.kept.first_are in
          let before = at-place stores shard (omega (arith, within, many)) in
          let after = at-place read shard (omega (arith, within, many, again)) in
          let book = at-place loaded.books shard (omega (arith, within, books)) in
          let at = is-at shard before.0 book.0 within before.1 book.1 in
          let seen : slice_get (map (store_seen G) read) shard ≡ Some (store_seen G after.0) =
          slice_get-map (store_seen G) read shard ∙ ap (option_map (store_seen G)) after.1 in
          by-fault fault spared before.0 after.0 book.0 before.1 at seen
          (only.each shard before.0 after.0 before.1 after.1).bytes_are
          (count before.0 after.0 before.1 after.1)
        where
          by-fault : (fault : FilingFault) → IsSpared G.bytes issuer stores shard fault
              → (before after : S) (book : ShardBook)
              → slice_get stores shard ≡ Some before → IsAt shard before book
              → slice_get (map (store_seen G) read) shard ≡ Some (store_seen G after) → G.bytes after ≡ G.bytes before
              → CountsFaults (G.faults before) (G.faults after) (is_store_fault {X = Unit {0}} (Err fault))
              → StopsReading (map (store_seen G) read) shard fault
          by-fault StoreFails spared before after book before_at at seen same counts =
              let none : G.faults before ≡ 0 = at.keeps.faults_are ∙ at.keeps.was.no_fault in (
                store_seen G after,
                seen,
                Rose-from_none (G.faults after) (subst (λ n. Rose n (G.faults after)) none counts.counted),
              )
          by-fault (BadLine line) spared before after book before_at at seen same counts = (
            store_seen G after,
            seen,
            same ∙ bytes-unknown before book (G.bytes before) (BadLine line) refl before_at at refl spared,
          )
          by-fault NoRoom spared before after book before_at at seen same counts = tt
