-- Journals that were loaded, and are read again from their stores.
use Rattle.std.specs.Prelude.{◌≡◌, ℕ, ◌<◌, ◌==◌, Bool, false, MatchBool, List, length, slice_get, Some, None, IfSome}
use Rattle.issuer_base.specs.declared.entry.Entry.{Entry}
use Rattle.answer_text.specs.declared.stop_line.Stop.{Stop}
use Rattle.answer_text.specs.declared.stop_line.Stop.TheVariants.{StoreFault, BadJournal, NoMemory}
use Rattle.issuer_setup.specs.IssuerSetup.{Setup}
use Rattle.host_loading.specs.Books.{ShardBook, histories_of}
use Rattle.journal_reader.specs.declared.filing.FilingFault.{FilingFault}
use Rattle.journal_reader.specs.declared.filing.FilingFault.TheVariants.{StoreFault as StoreFails, BadLine}
use Rattle.journal_reader.specs.declared.filing.FilingFault.TheVariants.{NoMemory as NoRoom}
use Rattle.desk_host.specs.Kept.{KeepJournals}
use Rattle.desk_host.specs.Lawful.{IsLawful}
use Rattle.desk_host.specs.SeenStores.{Logged, SeenStore, SeenJournals}

-- the journals are as loading left them: no record was added, no call reported a fault, so that none is in doubt, and
-- the run is lawful. A store may have failed while it was read again
pub record StayLoaded (issuer : Setup) (journal : List ℕ) (logs : Logged) (journals : SeenJournals) : Type 0 where
  pub first : List ShardBook
  pub last : List ShardBook
  pub kept : KeepJournals issuer journal logs journals first last
  pub same : histories_of last ≡ histories_of first
  pub none_reported : (shard : ℕ) (book : ShardBook) → slice_get last shard ≡ Some book → book.reported ≡ 0
  pub lawful : IsLawful issuer first first

-- just the stores of the shards that failed have counted a fault
pub record FailOnlyAt (stores : List SeenStore) (failed : ℕ → Bool) : Type 0 where
  pub each : (shard : ℕ) (store : SeenStore) → slice_get stores shard ≡ Some store
      → MatchBool (failed shard) (0 < store.faults) (store.faults ≡ 0)

-- no shard's store failed
abbrev pub none_fails : ℕ → Bool
none_fails shard = false

-- the store that failed, if one did, is that of the shard whose journal couldn't be read on
abbrev pub failed_at : FilingFault → ℕ → ℕ → Bool
failed_at StoreFails shard number = shard == number
failed_at (BadLine line) shard number = false
failed_at NoRoom shard number = false

-- what was read of this shard's journal compares so with its book's history, where the store's bytes are observable
abbrev pub ReadsAs : (List Entry → List Entry → Type 0) → SeenJournals → List ShardBook → ℕ → List Entry → Type 0
ReadsAs Compares journals books shard read =
    (store : SeenStore) (book : ShardBook) → slice_get journals.stores shard ≡ Some store
    → slice_get books shard ≡ Some book → IfSome store.bytes (λ bytes. Compares read book.history)

-- these histories were read of all journals: those of the books
pub record AreRead (journals : SeenJournals) (books : List ShardBook) (histories : List (List Entry)) : Type 0 where
  pub count_is : length histories ≡ length books
  pub each : (shard : ℕ) (history : List Entry) → slice_get histories shard ≡ Some history
      → ReadsAs (λ read whole. read ≡ whole) journals books shard history

-- why loaded journals couldn't be read on: this shard's store failed while it was read again; or this line of its
-- journal is bad, and then the store's bytes aren't observable; or no memory was left
abbrev pub StopsReading : List SeenStore → ℕ → FilingFault → Type 0
StopsReading stores shard StoreFails =
    (store : SeenStore) × (slice_get stores shard ≡ Some store) × (0 < store.faults)
StopsReading stores shard (BadLine line) =
    (store : SeenStore) × (slice_get stores shard ≡ Some store) × (store.bytes ≡ None)
StopsReading stores shard NoRoom = Unit {0}

-- how a run stops that couldn't read on in this shard's journal
abbrev pub stop_of_reading : FilingFault → ℕ → Stop
stop_of_reading StoreFails shard = StoreFault shard
stop_of_reading (BadLine line) shard = BadJournal shard line
stop_of_reading NoRoom shard = NoMemory
