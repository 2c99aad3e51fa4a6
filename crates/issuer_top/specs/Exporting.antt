-- How a run ends that writes the records of the journals as a feed.
use Rattle.std.specs.Prelude.{◌≡◌, ◌⊎◌, ℕ, ◌+◌, ◌<◌, ◌==◌, List, [], ◌∷◌, ◌++◌, length, slice_get, Some}
use Rattle.issuer_base.specs.declared.entry.Entry.{Entry}
use Rattle.answer_text.specs.StopText.{stop_text}
use Rattle.answer_text.specs.declared.stop_line.Stop.{Stop}
use Rattle.answer_text.specs.declared.stop_line.Stop.TheVariants.{StoreFault as StoreStop, BadJournal, NoMemory}
use Rattle.issuer_setup.specs.IssuerSetup.{Setup}
use Rattle.host_loading.specs.Books.{ShardBook}
use Rattle.command_line.specs.Command.{IsExport}
use Rattle.journal_reader.specs.declared.reader.RecordFault.{RecordFault}
use Rattle.journal_reader.specs.declared.reader.RecordFault.TheVariants.{StoreFault, BadLine}
use Rattle.journal_reader.specs.Filing.{fault_of}
use Rattle.journal_reader.specs.Exporting.{feed_text}
use Rattle.desk_host.specs.SeenStores.{SeenJournals}
use Rattle.issuer_top.specs.Opened.{OpenedConfigOnly}
use Rattle.issuer_top.specs.InOrder.{AreObservable, IsInOrder}
use Rattle.issuer_top.specs.Opening.{SaysIssuer}
use Rattle.issuer_top.specs.ReadAgain.{StayLoaded, AreRead, FailOnlyAt, ReadsAs, StopsReading, failed_at, none_fails}
use Rattle.issuer_top.specs.ReadAgain.{stop_of_reading}
use Rattle.issuer_top.specs.Seen.{Seen}
use Rattle.issuer_top.specs.Stops.{StopsBefore}
use Rattle.issuer_top.specs.Ways.{Ways, Runs}

-- the journals were loaded to be exported, and are as loading left them; only the configuration was opened besides
pub record LoadsToExport (config journal : List ℕ) (seen : Seen) : Type 0 where
  pub issuer : Setup
  pub said : SaysIssuer seen config issuer
  pub stay : StayLoaded issuer journal seen.desk.logs seen.journals
  pub opened : OpenedConfigOnly seen

-- ---- feeds

-- the feed of all records of the journals
pub record IsFeed (journals : SeenJournals) (books : List ShardBook) (feed : List ℕ) : Type 0 where
  pub histories : List (List Entry)
  pub read : AreRead journals books histories
  pub feed_is : feed ≡ feed_text histories

-- the records are the first ones of these
abbrev pub AreFirst : List Entry → List Entry → Type 0
AreFirst first whole = (more : List Entry) × (whole ≡ first ++ more)

-- the feed of the records before one of this shard: all of the shards before it, and first ones of this shard
pub record IsFeedUpTo (journals : SeenJournals) (books : List ShardBook) (shard : ℕ) (feed : List ℕ) : Type 0 where
  pub histories : List (List Entry)
  pub first : List Entry
  pub within : shard < length books
  pub count_is : length histories ≡ shard
  pub before : (number : ℕ) (history : List Entry) → slice_get histories number ≡ Some history
      → ReadsAs (λ read whole. read ≡ whole) journals books number history
  pub at : ReadsAs AreFirst journals books shard first
  pub feed_is : feed ≡ feed_text (histories ++ first ∷ [])

-- the line that is bad is the next one after these records, or the first one, which isn't `v2`
abbrev pub IsLineAfter : List Entry → RecordFault → Type 0
IsLineAfter records StoreFault = Unit {0}
IsLineAfter records (BadLine line) = (line ≡ length records + 2) ⊎ ((records ≡ []) × (line ≡ 1))

-- ---- the ways to end

-- status 0: the feed of all records was written, and no store failed; at status 4 it was due
pub record IsExported (config journal : List ℕ) (seen : Seen) (text : List ℕ) : Type 0 where
  pub loaded : LoadsToExport config journal seen
  pub stood : FailOnlyAt seen.journals.stores none_fails
  pub feed : IsFeed seen.journals loaded.stay.first text

-- status 4: the feed of the first records. At most the store of the shard that they end in failed
pub record IsExportBegun (config journal : List ℕ) (seen : Seen) (text : List ℕ) : Type 0 where
  pub loaded : LoadsToExport config journal seen
  pub shard : ℕ
  pub counted :
      FailOnlyAt seen.journals.stores none_fails ⊎ FailOnlyAt seen.journals.stores (λ number. shard == number)
  pub feed : IsFeedUpTo seen.journals loaded.stay.first shard text

-- statuses 5 and 6: the journals were loaded, and the one of this shard couldn't be read on; the feed of the records
-- before is written, and a bad line is the one after them. No other store failed
pub record CannotReadOn (config journal : List ℕ) (seen : Seen) (stop : Stop) (text : List ℕ) : Type 0 where
  pub loaded : LoadsToExport config journal seen
  pub shard : ℕ
  pub fault : RecordFault
  pub counted : FailOnlyAt seen.journals.stores (failed_at (fault_of fault) shard)
  pub written : List ℕ
  pub feed : IsFeedUpTo seen.journals loaded.stay.first shard written
  pub line_is : IsLineAfter feed.first fault
  pub cause : StopsReading seen.journals.stores shard (fault_of fault)
  pub stop_is : stop ≡ stop_of_reading (fault_of fault) shard
  pub last : text ≡ written ++ stop_text stop

-- status 7: no memory was left to export with, once the journals were loaded; no store failed
pub record CannotExport (config journal : List ℕ) (seen : Seen) (text : List ℕ) : Type 0 where
  pub loaded : LoadsToExport config journal seen
  pub stood : FailOnlyAt seen.journals.stores none_fails
  pub last : text ≡ stop_text NoMemory

-- how a run stops once its journals were loaded
abbrev pub StopsToExport : List ℕ → List ℕ → Seen → Stop → List ℕ → Type 0
StopsToExport config journal seen (StoreStop shard) text = CannotReadOn config journal seen (StoreStop shard) text
StopsToExport config journal seen (BadJournal shard line) text =
    CannotReadOn config journal seen (BadJournal shard line) text
StopsToExport config journal seen NoMemory text = CannotExport config journal seen text
StopsToExport config journal seen stop text = ⊥

abbrev pub ways_to_export : List ℕ → List ℕ → Seen → Ways
ways_to_export config journal seen = record {
  IsDone = IsExported config journal seen;
  Stops = λ stop text. StopsBefore config journal seen stop text ⊎ StopsToExport config journal seen stop text;
  IsDue = λ text. IsExportBegun config journal seen text ⊎ IsExported config journal seen text;
}

-- ---- the command

-- all is in order, and the stores' bytes are observable
pub record ExportsInOrder (config journal : List ℕ) (seen : Seen) : Type 0 where
  pub in_order : IsInOrder config journal seen
  pub stores_told : AreObservable seen.journals.stores

-- if the words are the command to export, with these names, the run ends in one of its ways
abbrev pub RunsExport : List (List ℕ) → ℕ → Seen → Type 0
RunsExport words status seen = (config journal : List ℕ) → IsExport words config journal
    → Runs (ways_to_export config journal seen) (ExportsInOrder config journal seen) status seen
