-- The history that a shard over a store stands for.
use Rattle.std.specs.Prelude.{◌≡◌, ◌⊎◌, ◌≤◌, ℕ, false, List, [], ◌∷◌, ◌++◌, length, Option, Some, IfSome, IsSomeAnd, Result, MatchResult, All}
use Rattle.issuer_base.specs.Stores.{Disk, Moment, MayLeave, BothTold}
use Rattle.journal_store.specs.Images.{OnlyReads}
use Rattle.issuer_base.specs.declared.outside.store.Store.{Ghosts}
use Rattle.issuer_base.specs.declared.entry.Entry.{Entry}
use Rattle.card_history.specs.LegalRecords.{Grounds, IsLegal}
use Rattle.issuer_setup.specs.IssuerSetup.{Setup}
use Rattle.journal_rec.specs.Record.{IsRecord}
use Rattle.journal_rec.specs.RecordText.{journal_text}
use Rattle.journal_store.specs.declared.journal.Journal.{Journal}
use Rattle.journal_store.specs.Holding.{Holds}
use Rattle.shard_book.specs.declared.replay.LoadFault.{LoadFault}
use Rattle.shard_book.specs.declared.replay.LoadFault.TheVariants.{StoreFault as StoreFailed}
use Rattle.shard_book.specs.declared.shard.Shard.{Shard}
use Rattle.shard_book.specs.ShardRows.{AreRowsOf, IsHome, RowsStandFor}
use Rattle.shard_book.specs.Grounds.{IsTail, IsImageOf, grounds_now, grounds_of}
use Rattle.shard_book.specs.Histories.{IsLegalSince}
use Rattle.shard_book.specs.Versions.{HasText, IsPartOf}
use Rattle.shard_book.specs.declared.replay.Version.TheVariants.{One, Two}

-- the journal has the records of the history, possibly followed by a prefix of the text of a valid successor
pub record HoldsHistory {S : Type 0} {G : Ghosts S} (grounds : Grounds) (number : ℕ) (journal : Journal S G)
    (history : List Entry) : Type 0 where
  pub tail : List ℕ
  pub tail_is : IsTail grounds number history tail
  pub records : All IsRecord history
  pub holds : Holds journal (length history) (journal_text history) tail

module _ {S : Type 0} {G : Ghosts S} where
  -- the shard's number
  abbrev pub number_in : Shard S G → ℕ
  number_in shard = shard.rows.shard

  -- the shard is one of this issuer's
  abbrev pub IsUnder : Setup → Shard S G → Type 0
  IsUnder issuer shard = AreRowsOf issuer shard.rows

  -- the number is that of a card of this shard
  abbrev pub HasCard : Shard S G → ℕ → Type 0
  HasCard shard number = IsHome shard.rows number

  -- its store
  abbrev pub store_in : Shard S G → S
  store_in shard = shard.journal.store

  -- how many bytes of its store are durable
  abbrev pub sure_in : Shard S G → ℕ
  sure_in shard = shard.journal.sure

  -- how many records it has
  abbrev pub places_in : Shard S G → ℕ
  places_in shard = shard.journal.records

  -- how many of its calls reported that its store failed
  abbrev pub reported_in : Shard S G → ℕ
  reported_in shard = shard.reported

  -- its store has the text of the history, all of it durable, and after it at most a prefix of this tail
  abbrev pub HasTail : Shard S G → List Entry → List ℕ → Type 0
  HasTail shard history tail = Holds shard.journal (length history) (journal_text history) tail

  -- nothing is in doubt unless one of its calls reported that its store failed
  abbrev pub IsUndoubted : Shard S G → Type 0
  IsUndoubted shard = shard.reported ≡ 0 → shard.journal.in_doubt ≡ false

  -- what is observable of its store's disk, and the store's fault count
  abbrev pub disk_in : Shard S G → Option Disk
  disk_in shard = G.disk shard.journal.store

  abbrev pub faults_in : Shard S G → ℕ
  faults_in shard = G.faults shard.journal.store

-- a shard stands for a history if its rows do and its journal has the history's records
pub record StandsFor {S : Type 0} {G : Ghosts S} (issuer : Setup) (shard : Shard S G) (history : List Entry)
    : Type 0 where
  pub rows_stand : RowsStandFor issuer shard.rows history
  pub journal_holds : HoldsHistory (grounds_now issuer) shard.rows.shard shard.journal history

-- the record is added and its index is returned, or the store failed and the history is unchanged
abbrev pub Adds : {S E : Type 0} {G : Ghosts S} → Setup → Shard S G → List Entry → Entry → Result ℕ E → Type 0
Adds issuer new history entry result =
    MatchResult result (λ place. (place ≡ length history) × StandsFor issuer new (history ++ entry ∷ []))
    (λ _. StandsFor issuer new history)

-- a load after this old history takes the bytes for the history: they are a prefix of the text of the old history,
-- where a migration was stopped or never begun; or the text of the history and a torn last line, which may be empty
abbrev pub IsTakenFor : List Entry → List Entry → List ℕ → Type 0
IsTakenFor old history bytes = ((history ≡ old) × IsPartOf (journal_text old) bytes) ⊎ HasText Two history bytes

-- if the bytes of the old store and of the store were observable, the old ones were the text of this old history and a
-- torn last line, and a load takes the others for this history, which is legal since the old one
pub record IsJournalOf (issuer : Setup) (number : ℕ) (old_bytes bytes : Option (List ℕ)) (old history : List Entry)
    : Type 0 where
  pub old_text_is : IfSome old_bytes (HasText One old)
  pub text_is : IfSome bytes (IsTakenFor old history)
  pub old_records : All IsRecord old
  pub records : All IsRecord history
  pub since : IsLegalSince issuer number old history

-- a shard that was loaded: it stands for the history that the stores' bytes were taken for, and its journal has just
-- the history's text
pub record IsLoaded {S : Type 0} {G : Ghosts S} (issuer : Setup) (number : ℕ) (old_bytes bytes : Option (List ℕ))
    (shard : Shard S G) : Type 0 where
  pub old : List Entry
  pub history : List Entry
  pub journal_is : IsJournalOf issuer number old_bytes bytes old history
  pub number_is : number_in shard ≡ number
  pub stands : StandsFor issuer shard history
  pub settled : HasTail shard history []

-- the store's bytes are known, and a load after this old history takes them for this history, which is legal since it
pub record IsTextOf (issuer : Setup) (shard : ℕ) (old : List Entry) (bytes : Option (List ℕ)) (history : List Entry)
    : Type 0 where
  pub text_is : IsSomeAnd bytes (IsTakenFor old history)
  pub records : All IsRecord history
  pub since : IsLegalSince issuer shard old history

-- the store's bytes are known: an image of this history, which is legal since the old one whatever decision table an
-- earlier run had
pub record IsImageLeft (issuer : Setup) (shard : ℕ) (old : List Entry) (bytes : Option (List ℕ)) (history : List Entry)
    : Type 0 where
  pub image : List ℕ
  pub told : bytes ≡ Some image
  pub left : IsImageOf (grounds_of issuer) shard history image
  pub records : All IsRecord history
  pub since : IsLegalSince issuer shard old history

-- the shard stands for the history, and its journal has just the history's text, all of it durable
pub record IsSettled {S : Type 0} {G : Ghosts S} (issuer : Setup) (shard : Shard S G) (history : List Entry)
    : Type 0 where
  pub stands : StandsFor issuer shard history
  pub settled : HasTail shard history []

-- the shard stands for the history, or for the history and the one record whose text is whole in the bytes
abbrev pub StandsForLeft : {S : Type 0} {G : Ghosts S} → Setup → ℕ → Option (List ℕ) → List Entry → Shard S G → Type 0
StandsForLeft issuer number bytes history shard =
    IsSettled issuer shard history
    ⊎ ((entry : Entry) × IsLegal (grounds_of issuer) number history entry
    × (bytes ≡ Some (journal_text (history ++ entry ∷ []))) × IsSettled issuer shard (history ++ entry ∷ []))

-- the bytes were the text of records and a torn last line, and were truncated to the text of the records
pub record IsCutToText (before after : List ℕ) : Type 0 where
  pub history : List Entry
  pub records : All IsRecord history
  pub text_is : HasText Two history before
  pub cut : after ≡ journal_text history

-- the old store's bytes are the text of a history and a torn last line; the bytes were and are a prefix of this
-- history's text in a journal of version 2: a migration went on
pub record IsMigrated (old_bytes : Option (List ℕ)) (before after : List ℕ) : Type 0 where
  pub old : List Entry
  pub records : All IsRecord old
  pub old_text_is : IsSomeAnd old_bytes (HasText One old)
  pub was : IsPartOf (journal_text old) before
  pub now : IsPartOf (journal_text old) after

-- what a crash leaves of a store that is loaded after this old history for this history: what it might leave before;
-- where a migration goes on, a prefix of the old history's text; or the text of the history
abbrev pub IsLoadImage : List Entry → List Entry → Moment → List ℕ → Type 0
IsLoadImage old history moment image =
    MayLeave moment image
    ⊎ (IsPartOf (journal_text old) moment.bytes × IsPartOf (journal_text old) image)
    ⊎ (image ≡ journal_text history)

-- and if its load fails: what it might leave before; where a migration goes on, a prefix of the old history's text; or
-- the text of the records alone
abbrev pub IsFailedImage : Option (List ℕ) → Moment → List ℕ → Type 0
IsFailedImage old_bytes moment image =
    MayLeave moment image ⊎ IsMigrated old_bytes moment.bytes image ⊎ IsCutToText moment.bytes image

-- what a failed load leaves of the store's bytes: they are unchanged; or if a store failed, possibly migrated in part
-- and no shorter, or truncated to the records
abbrev pub LeavesBytes : LoadFault → Option (List ℕ) → Option (List ℕ) → Option (List ℕ) → Type 0
LeavesBytes StoreFailed old_bytes old new =
    BothTold (λ before after. (after ≡ before)
    ⊎ (IsMigrated old_bytes before after × (length before ≤ length after)) ⊎ IsCutToText before after) old new
LeavesBytes _ old_bytes old new = new ≡ old

-- and of its disk: unless a store failed, each moment has the bytes of the first
abbrev pub LeavesDisk : LoadFault → Option Disk → Option Disk → Type 0
LeavesDisk StoreFailed old new = Unit {0}
LeavesDisk _ old new = BothTold OnlyReads old new
