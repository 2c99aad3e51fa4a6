-- The log of a shard: its records, and the faults that answers reported; and when a shard stands for it.
use Rattle.std.specs.Prelude.{◌≡◌, ℕ, ◌<◌, ◌≤◌, List, [], ◌∷◌, length, take, slice_get, Some}
use Rattle.issuer_base.specs.OutsideFaults.{Rose}
use Rattle.issuer_base.specs.Stores.{BothTold, LeavesOnly}
use Rattle.issuer_base.specs.declared.entry.Entry.{Entry}
use Rattle.issuer_base.specs.declared.limits.TheConstants.{MAX_FAULTS_REPORTED}
use Rattle.issuer_base.specs.declared.outside.store.Store.{Ghosts}
use Rattle.card_history.specs.LegalRecords.{IsLegal, IsLegalHistory}
use Rattle.shard_book.specs.declared.shard.Shard.{Shard}
use Rattle.shard_book.specs.Grounds.{grounds_now, grounds_of}
use Rattle.shard_book.specs.Shards.{number_in, IsUnder, disk_in, faults_in, reported_in, IsUndoubted, StandsFor}
use Rattle.shared_shards.specs.declared.logs.LogHead.{LogHead}
use Rattle.shared_shards.specs.declared.logs.LogItem.{LogItem}
use Rattle.shared_shards.specs.declared.logs.LogItem.TheVariants.{Record, Fault}
use Rattle.shard_book.specs.Histories.{IsImageBetween}

-- the records of a log
abbrev pub records_of : List LogItem → List Entry
records_of [] = []
records_of (Record entry ∷ items) = entry ∷ records_of items
records_of (Fault count ∷ items) = records_of items

-- the fault counts that it has
abbrev pub faults_of : List LogItem → List ℕ
faults_of [] = []
faults_of (Record entry ∷ items) = faults_of items
faults_of (Fault count ∷ items) = count ∷ faults_of items

-- each count is above the one before it, or saturated; the first comes before them, and none is above the count now
abbrev pub RiseTo : ℕ → List ℕ → ℕ → Type 0
RiseTo first [] now = first ≤ now
RiseTo first (count ∷ counts) now = (first ≤ count) × Rose first count × RiseTo count counts now

-- the last of these counts, or where there is none the first one
abbrev pub last_count : ℕ → List ℕ → ℕ
last_count first [] = first
last_count first (count ∷ counts) = last_count count counts

-- the records that the log with this head opened with
abbrev pub opening_records : LogHead → List LogItem → List Entry
opening_records head items = take head.records (records_of items)

-- the shard stands for the log with this head and these items
pub record StandsForLog {S : Type 0} {G : Ghosts S} (shard : Shard S G) (head : LogHead)
    (items : List LogItem) : Type 0 where
  pub number_is : number_in shard ≡ head.shard
  pub under : IsUnder head.issuer shard
  pub stands : StandsFor head.issuer shard (records_of items)
  -- the records are a legal history, and those after the opening ones are the issuer's own decisions
  pub legal : IsLegalHistory (grounds_of head.issuer) head.shard (records_of items)
  pub opened : head.records ≤ length (records_of items)
  pub by_table : (place : ℕ) (entry : Entry) → head.records ≤ place → slice_get (records_of items) place ≡ Some entry
      → IsLegal (grounds_now head.issuer) head.shard (take place (records_of items)) entry
  -- the log has each answer that reported that the store failed, up to a limit
  pub told_is : reported_in shard ≡ length (faults_of items)
  pub few : length (faults_of items) ≤ MAX_FAULTS_REPORTED
  pub undoubted : IsUndoubted shard
  pub counts : RiseTo head.faults (faults_of items) (faults_in shard)
  -- below the limit the store's count is the last one in the log, so each such answer has the count after it
  pub last_is : length (faults_of items) < MAX_FAULTS_REPORTED → faults_in shard ≡ last_count head.faults (faults_of items)
  -- whatever a crash since the log was opened may leave is an image of a history between the opening one and the log's
  pub since : BothTold
      (LeavesOnly (IsImageBetween head.issuer head.shard (opening_records head items) (records_of items))) head.opened
      (disk_in shard)
