-- The initial logs of a host of several callers, and the recorded ATCs.
use Rattle.std.specs.Prelude.{◌≡◌, ◌⊎◌, ℕ, ◌%◌, ◌<◌, List, length, slice_get, Bool, false, Option, Some}
use Rattle.std.specs.List.{list_any}
use Rattle.issuer_base.specs.OutsideFaults.{CountsFaults}
use Rattle.issuer_base.specs.Stores.{BothTold, Disk, LeavesOnly}
use Rattle.issuer_base.specs.declared.entry.Entry.{Entry}
use Rattle.issuer_setup.specs.IssuerSetup.{Setup}
use Rattle.shard_book.specs.declared.replay.LoadFault.{LoadFault}
use Rattle.shard_book.specs.declared.replay.LoadFault.TheVariants.{NoMemory}
use Rattle.shard_book.specs.Shards.{IsJournalOf, IsLoadImage}
use Rattle.shared_shards.specs.ShardLogs.{records_of}
use Rattle.shared_shards.specs.Opening.{head_with, log_with}
use Rattle.host_loading.specs.Loading.{IsGivenBack, ComeBack, ComeBackTogether}
use Rattle.claim_words.specs.declared.layout.TheConstants.{COUNTERS}
use Rattle.claim_words.specs.declared.claim_words.ClaimWords.{ClaimWords}
use Rattle.claim_words.specs.Seats.{recorded_in}
use Rattle.turn_book.specs.declared.logs.Log.{Log}
use Rattle.turn_book.specs.Logs.{items_at}
use Rattle.shared_seats.specs.Totals.{one_if}
use Rattle.shared_shards.specs.declared.logs.LogItem.{LogItem}
use Rattle.shared_shards.specs.declared.logs.LogHead.{LogHead}
use Rattle.shared_laws.specs.Decisions.{decides}

-- whether the items have a decision on this ATC of the issuer's card with this number
abbrev pub is_decided : Setup → List LogItem → ℕ → ℕ → Bool
is_decided issuer items card counter = list_any (λ item. decides issuer card counter (Some item)) items

-- 1 if the log of the card's shard has a decision on this ATC of the card, and else 0
abbrev pub opened_on : Setup → List (Log LogItem LogHead) → ℕ → ℕ → ℕ
opened_on issuer logs card counter = one_if (is_decided issuer (items_at logs (card % issuer.shards)) card counter)

-- the claim words have an ATC of a card as recorded, and once, exactly if the log of the card's shard has a decision on
-- it
abbrev pub AreRecordedIn : Setup → List (Log LogItem LogHead) → ClaimWords → Type 0
AreRecordedIn issuer logs words =
    (card counter : ℕ) → counter < COUNTERS
    → recorded_in words card counter ≡ opened_on issuer logs card counter

-- the head of each log has the number of its records
abbrev pub AreCounted : List (Log LogItem LogHead) → Type 0
AreCounted logs =
    (shard : ℕ) (log : Log LogItem LogHead) → slice_get logs shard ≡ Some log
    → log.head.records ≡ length (records_of log.items)

-- by the stores' observable bytes and disks, and their fault counts; `olds` are the old stores before the call, and
-- `read` the same stores after it
module _ {S : Type 0} (bytes : S → Option (List ℕ)) (disk : S → Option Disk) (faults : S → ℕ) where
  -- the log has just the records of a history, which is legal since that of the old store. If the stores expose their
  -- bytes, these were taken for the history, and the store was migrated or truncated to its text. The log's head has
  -- the issuer, the shard's number, and, as of the end of loading, the store's fault count, the number of records and
  -- the store's disk. Meanwhile a crash leaves what it might leave before, a prefix of the old history's text, or the
  -- history's text
  pub record IsOpenedFrom (issuer : Setup) (number : ℕ) (old old_then store : S) (log : Log LogItem LogHead)
      : Type 0 where
    pub old_history : List Entry
    pub history : List Entry
    pub journal_is : IsJournalOf issuer number (bytes old) (bytes store) old_history history
    pub log_is : log ≡ log_with (head_with issuer number log.head.faults (length history) log.head.opened) history
    pub leaves :
        BothTold (λ before after. LeavesOnly (IsLoadImage old_history history before.now) before after)
        (disk store) log.head.opened
    pub old_counts : CountsFaults (faults old) (faults old_then) false
    pub counts : CountsFaults (faults store) log.head.faults false

  -- so it is with the log of each shard, and the old store and the store at its index
  pub record AreOpenedFrom (issuer : Setup) (olds read stores : List S) (logs : List (Log LogItem LogHead))
      : Type 0 where
    pub olds_are : length olds ≡ length stores
    pub read_are : length read ≡ length stores
    pub count_is : length logs ≡ length stores
    pub each : (number : ℕ) (old old_then store : S) (log : Log LogItem LogHead)
        → slice_get olds number ≡ Some old → slice_get read number ≡ Some old_then
        → slice_get stores number ≡ Some store → slice_get logs number ≡ Some log
        → IsOpenedFrom issuer number old old_then store log

  -- the stores of a host that wasn't loaded come back, all of them as they were loaded: the host's own allocation
  -- failed
  pub record AllComeBack (issuer : Setup) (olds read stores : List S) (failed : ℕ) (fault : LoadFault)
      (back : List S) : Type 0 where
    pub olds_are : length olds ≡ length stores
    pub read_are : length read ≡ length stores
    pub count_is : length back ≡ length stores
    pub first : failed ≡ 0
    pub fault_is : fault ≡ NoMemory
    pub each : (number : ℕ) (old old_then store after : S)
        → slice_get olds number ≡ Some old → slice_get read number ≡ Some old_then
        → slice_get stores number ≡ Some store → slice_get back number ≡ Some after
        → IsGivenBack bytes disk faults issuer number old old_then store after

-- the stores of a host that wasn't loaded come back: at the first shard that can't be loaded, or all of them once they
-- were loaded
module _ {S : Type 0} (size : S → ℕ) (bytes : S → Option (List ℕ)) (disk : S → Option Disk) (faults : S → ℕ) where
  abbrev pub HostComesBack : Setup → List S → List S → List S → ℕ → LoadFault → List S → Type 0
  HostComesBack issuer olds read stores failed fault back =
      ComeBack size bytes disk faults issuer olds read stores failed fault back
      ⊎ AllComeBack bytes disk faults issuer olds read stores failed fault back

  -- likewise, where the shards were loaded at once
  abbrev pub HostComesBackTogether : Setup → List S → List S → List S → ℕ → LoadFault → List S → Type 0
  HostComesBackTogether issuer olds read stores failed fault back =
      ComeBackTogether size bytes disk faults issuer olds read stores failed fault back
      ⊎ AllComeBack bytes disk faults issuer olds read stores failed fault back
