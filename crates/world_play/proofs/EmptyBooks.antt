-- A host over empty stores stands for books without records.
use Rattle.std.proofs.Common.{◌≡◌, refl, ⊎_elim, All, false, ℕ, zero, suc, List, [], ◌∷◌, ◌++◌, length, replicate, Option, None, Some, sym, ap, subst, ◌∙◌, arith}
use Rattle.std.specs.Prelude.{slice_get, IfSome}
use Rattle.std.proofs.lemmas.Bool.{true≢false}
use Rattle.std.proofs.lemmas.List.{length-replicate}
use Rattle.issuer_base.specs.declared.entry.Entry.{Entry}
use Rattle.issuer_base.specs.declared.outside.store.Store.{Ghosts}
use Rattle.issuer_setup.specs.IssuerSetup.{Setup}
use Rattle.journal_rec.specs.Record.{IsRecord}
use Rattle.journal_rec.specs.RecordText.{newline, journal_text, texts_of}
use Rattle.journal_rec.proofs.TextLaws.{texts_of-one_reading}
use Rattle.issuer_base.specs.Stores.{Disk}
use Rattle.shard_book.specs.declared.replay.LoadFault.{LoadFault}
use Rattle.shard_book.specs.declared.replay.LoadFault.TheVariants.{StoreFault, OldLine, OldRecord, BadLine, BadRecord, NoMemory}
use Rattle.shard_book.specs.declared.replay.Version.{Version}
use Rattle.shard_book.specs.declared.replay.Version.TheVariants.{One, Two}
use Rattle.shard_book.specs.declared.shard.Shard.{Shard}
use Rattle.shard_book.specs.Loading.{DiffersAt, StopsAt, StopsJournal, StopsText, is_store_failure}
use Rattle.shard_book.specs.Shards.{faults_in, IsJournalOf, IsTakenFor}
use Rattle.shard_book.specs.Versions.{text_in, HasText}
use Rattle.host_loading.specs.Books.{ShardBook}
use Rattle.host_loading.specs.Hosts.{Stand, StandsForBook}
use Rattle.shard_book.specs.Loads.{IsLoadedFrom}
use Rattle.host_loading.specs.Loading.{AreLoaded, ComeBack}
use Rattle.host_loading.proofs.Loads.{shard-of}
use Rattle.host_loading.proofs.Places.{read-within}
use Rattle.one_caller.proofs.Running.{stands-loaded}
use Rattle.world_play.specs.Play.{empty_book}

-- what stands in a list of equals
replicate-at : {X : Type 0} (n : ℕ) (x : X) (place : ℕ) (y : X) → slice_get (replicate n x) place ≡ Some y → y ≡ x
replicate-at zero x place y is = absurd (let e : None ≡ Some y = is in cc)
replicate-at (suc n) x zero y is = let e : Some x ≡ Some y = is in let w : y ≡ x = cc in w
replicate-at (suc n) x (suc place) y is = replicate-at n x place y is

-- a text is empty where all is
texts-none : (text rest : List ℕ) → [] ≡ text ++ rest → text ≡ []
texts-none [] rest is = refl
texts-none (byte ∷ text) rest is = absurd (cc)

-- no text of a journal of version 2 is
no-journal : (history : List Entry) (rest : List ℕ) → [] ≡ journal_text history ++ rest → ⊥
no-journal history rest is = absurd (cc)

-- records without a text are none
records-none : (history : List Entry) → All IsRecord history → texts_of history ≡ [] → history ≡ []
records-none history records none =
    let nothing : List Entry = [] in
    (texts_of-one_reading history nothing [] [] records (λ place entry within. absurd (omega (arith, within)))
    (λ place byte within. absurd (omega (arith, within))) (λ place byte within. absurd (omega (arith, within)))
    (ap (λ (text : List ℕ). text ++ []) none)).0

-- what empty stores are taken for
taken-none : (history old : List Entry) → old ≡ [] → IsTakenFor old history [] → history ≡ []
taken-none history old none = ⊎_elim (λ part. part.0 ∙ none) (λ whole. absurd (no-journal history whole.rest whole.text_is))

journal-none : (setup : Setup) (number : ℕ) (old_bytes bytes : Option (List ℕ)) (old history : List Entry)
    → IsJournalOf setup number old_bytes bytes old history → old_bytes ≡ Some [] → bytes ≡ Some [] → history ≡ []
journal-none setup number old_bytes bytes old history journal old_empty empty =
    let old_text = subst (λ (bytes : Option (List ℕ)). IfSome bytes (HasText One old)) old_empty journal.old_text_is in
    let text = subst (λ (bytes : Option (List ℕ)). IfSome bytes (IsTakenFor old history)) empty journal.text_is in
    let none = records-none old journal.old_records (texts-none (texts_of old) old_text.rest old_text.text_is) in
    taken-none history old none text

module _ {S : Type 0} {G : Ghosts S} (setup : Setup) where
  -- what was loaded from empty stores has no records
  history-none : (number : ℕ) (old old_then store : S) (shard : Shard S G) → (from : IsLoadedFrom setup number old old_then store shard)
      → G.bytes old ≡ Some [] → G.bytes store ≡ Some [] → from.loaded.history ≡ []
  history-none number old old_then store shard from old_empty empty =
      journal-none setup number (G.bytes old) (G.bytes store) from.loaded.old from.loaded.history from.loaded.journal_is old_empty empty

  stands-empty : (number : ℕ) (old old_then store : S) (shard : Shard S G) → IsLoadedFrom setup number old old_then store shard → G.bytes old ≡ Some []
      → G.bytes store ≡ Some [] → G.faults store ≡ 0 → StandsForBook setup shard empty_book
  stands-empty number old old_then store shard from old_empty empty none =
      subst (λ (book : ShardBook). StandsForBook setup shard book)
      (ap (λ (history : List Entry). record { history = history; faults = faults_in shard; reported = 0 })
      (history-none number old old_then store shard from old_empty empty)
      ∙ ap (λ (faults : ℕ). record { history = []; faults = faults; reported = 0 }) (from.counts.counted ∙ none))
      (stands-loaded setup number old old_then store shard from)

  -- the shards of empty stores
  pub opened : (olds read stores : List S) (shards : List (Shard S G)) (count : ℕ) → length stores ≡ count
      → ((number : ℕ) (old : S) → slice_get olds number ≡ Some old → G.bytes old ≡ Some [])
      → ((number : ℕ) (store : S) → slice_get stores number ≡ Some store → (G.bytes store ≡ Some []) × (G.faults store ≡ 0))
      → AreLoaded setup olds read stores shards → Stand setup shards (replicate count empty_book)
  opened olds read stores shards count long old_empty empty loaded = record {
    count_is = length-replicate count empty_book ∙ sym long ∙ sym loaded.count_is;
    each = λ number shard book shard_is book_is.
        let its = shard-of setup olds read stores shards loaded number shard shard_is in
        let none = empty number its.store its.store_is in
        subst (λ (book : ShardBook). StandsForBook setup shard book) (sym (replicate-at count empty_book number book book_is))
        (stands-empty number its.old its.old_then its.store shard its.from (old_empty number its.old its.old_is) none.0 none.1);
  }

-- an empty text has no line
no-line : (front line : List ℕ) (byte : ℕ) (ahead : List ℕ) → [] ≡ front ++ line ++ byte ∷ ahead → ⊥
no-line [] [] byte ahead is = cc
no-line [] (next ∷ line) byte ahead is = cc
no-line (next ∷ front) line byte ahead is = cc

-- so none of its lines is bad
no-bad_line : (version : Version) (setup : Setup) (number : ℕ) (first : List Entry) (fault : LoadFault) → StopsAt version setup number first [] fault → ⊥
no-bad_line version setup number first fault it = no-line (text_in version it.history) it.line newline it.ahead it.text_is

-- and it differs nowhere from another
no-difference : (text : List ℕ) (line : ℕ) → DiffersAt text [] line → ⊥
no-difference text line it = no-line [] it.same it.byte it.ahead it.bytes_are

no-bad_journal : (setup : Setup) (number : ℕ) (old_bytes : List ℕ) (fault : LoadFault) → StopsJournal setup number old_bytes [] fault → ⊥
no-bad_journal setup number old_bytes fault it =
    ⊎_elim (λ differs. no-difference (journal_text it.old) differs.0 differs.2) (no-bad_line Two setup number it.old fault) it.stops

journal-alone : (setup : Setup) (number : ℕ) (old_bytes bytes : Option (List ℕ)) (fault : LoadFault) → old_bytes ≡ Some [] → bytes ≡ Some []
    → IfSome old_bytes (λ old_text. IfSome bytes (λ text. StopsJournal setup number old_text text fault)) → ⊥
journal-alone setup number old_bytes bytes fault old_empty empty stops =
    no-bad_journal setup number [] fault
    (subst (λ (bytes : Option (List ℕ)). IfSome bytes (λ text. StopsJournal setup number [] text fault)) empty
    (subst (λ (old_bytes : Option (List ℕ)). IfSome old_bytes (λ old_text. IfSome bytes (λ text. StopsJournal setup number old_text text fault)))
    old_empty stops))

-- the texts of empty stores stop nowhere
memory-alone : (setup : Setup) (number : ℕ) (old_bytes bytes : Option (List ℕ)) (fault : LoadFault) → old_bytes ≡ Some [] → bytes ≡ Some []
    → is_store_failure fault ≡ false → StopsText setup number old_bytes bytes fault → fault ≡ NoMemory
memory-alone setup number old_bytes bytes StoreFault old_empty empty works stops = absurd (true≢false works)
memory-alone setup number old_bytes bytes (OldLine line) old_empty empty works stops =
    absurd (no-bad_line One setup number [] (OldLine line)
    (subst (λ (bytes : Option (List ℕ)). IfSome bytes (λ text. StopsAt One setup number [] text (OldLine line))) old_empty stops))
memory-alone setup number old_bytes bytes (OldRecord line) old_empty empty works stops =
    absurd (no-bad_line One setup number [] (OldRecord line)
    (subst (λ (bytes : Option (List ℕ)). IfSome bytes (λ text. StopsAt One setup number [] text (OldRecord line))) old_empty stops))
memory-alone setup number old_bytes bytes (BadLine line) old_empty empty works stops =
    absurd (journal-alone setup number old_bytes bytes (BadLine line) old_empty empty stops)
memory-alone setup number old_bytes bytes (BadRecord line) old_empty empty works stops =
    absurd (journal-alone setup number old_bytes bytes (BadRecord line) old_empty empty stops)
memory-alone setup number old_bytes bytes NoMemory old_empty empty works stops = refl

-- empty stores that work are loaded but for want of memory
pub lacks_memory : {S : Type 0} (size : S → ℕ) (bytes : S → Option (List ℕ)) (disk : S → Option Disk) (faults : S → ℕ) (setup : Setup)
    (olds read stores : List S) (failed : ℕ) (fault : LoadFault) (back : List S)
    → ((number : ℕ) (old : S) → slice_get olds number ≡ Some old → bytes old ≡ Some [])
    → ((number : ℕ) (store : S) → slice_get stores number ≡ Some store → bytes store ≡ Some [])
    → is_store_failure fault ≡ false → ComeBack size bytes disk faults setup olds read stores failed fault back → fault ≡ NoMemory
lacks_memory size bytes disk faults setup olds read stores failed fault back old_empty empty works come =
    let within = come.within in
    let old = read-within olds failed (omega (arith, within, come.olds_are)) in
    let old_then = read-within read failed (omega (arith, within, come.read_are)) in
    let store = read-within stores failed within in
    let after = read-within back failed (omega (arith, within, come.count_is)) in
    memory-alone setup failed (bytes old.0) (bytes store.0) fault (old_empty failed old.0 old.1) (empty failed store.0 store.1) works
    (come.at old.0 old_then.0 store.0 after.0 old.1 old_then.1 store.1 after.1).stops
