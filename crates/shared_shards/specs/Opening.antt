-- The shards as they were loaded, and the logs that they open with.
use Rattle.std.specs.Prelude.{◌≡◌, ℕ, List, length, map, slice_get, Option, Some}
use Rattle.issuer_base.specs.Stores.{Disk}
use Rattle.issuer_base.specs.declared.outside.store.Store.{Ghosts}
use Rattle.issuer_base.specs.declared.entry.Entry.{Entry}
use Rattle.issuer_setup.specs.IssuerSetup.{Setup}
use Rattle.shard_book.specs.declared.shard.Shard.{Shard}
use Rattle.shard_book.specs.Loads.{IsLoadedFrom}
use Rattle.shard_book.specs.Shards.{disk_in, faults_in}
use Rattle.turn_book.specs.declared.logs.Log.{Log}
use Rattle.shared_shards.specs.declared.logs.LogHead.{LogHead}
use Rattle.shared_shards.specs.declared.logs.LogItem.{LogItem}
use Rattle.shared_shards.specs.declared.logs.LogItem.TheVariants.{Record}

-- the head of a log: the issuer, the shard's number, its store's fault count, how many records it opens with, and its
-- store's disk, if the store exposes it
abbrev pub head_with : Setup → ℕ → ℕ → ℕ → Option Disk → LogHead
head_with issuer shard faults records opened =
    record { issuer = issuer; shard = shard; faults = faults; records = records; opened = opened }

-- the log that has just these records
abbrev pub log_with : LogHead → List Entry → Log LogItem LogHead
log_with head history = record { head = head; items = map Record history }

module _ {S : Type 0} {G : Ghosts S} where
  -- the shard with this number of an issuer as it was loaded from the old store and the store at its index, before any
  -- answer
  pub record IsJustLoaded (issuer : Setup) (olds stores : List S) (number : ℕ) (shard : Shard S G) : Type 0 where
    pub old : S
    pub old_then : S
    pub store : S
    pub old_is : slice_get olds number ≡ Some old
    pub store_is : slice_get stores number ≡ Some store
    pub from : IsLoadedFrom issuer number old old_then store shard

  -- so is each of the shards
  pub record AreJustLoaded (issuer : Setup) (olds stores : List S) (shards : List (Shard S G)) : Type 0 where
    pub count_is : length shards ≡ issuer.shards
    pub each : (number : ℕ) (shard : Shard S G) → slice_get shards number ≡ Some shard
        → IsJustLoaded issuer olds stores number shard

  -- the shard's log has just the records of the history that was loaded
  pub record IsOpeningLog (issuer : Setup) (olds stores : List S) (number : ℕ) (shard : Shard S G)
      (log : Log LogItem LogHead) : Type 0 where
    pub just : IsJustLoaded issuer olds stores number shard
    pub log_is : log ≡ log_with
        (head_with issuer number (faults_in shard) (length just.from.loaded.history) (disk_in shard))
        just.from.loaded.history

  -- so it is with each log
  pub record AreOpeningLogs (issuer : Setup) (olds stores : List S) (shards : List (Shard S G))
      (logs : List (Log LogItem LogHead)) : Type 0 where
    pub count_is : length logs ≡ length shards
    pub each : (number : ℕ) (shard : Shard S G) (log : Log LogItem LogHead) → slice_get shards number ≡ Some shard
        → slice_get logs number ≡ Some log
        → IsOpeningLog issuer olds stores number shard log
