-- What holds once a host of several callers is closed.
use Rattle.std.specs.Prelude.{◌≡◌, ℕ, ◌+◌, ◌<◌, ◌≤◌, List, length, slice_get, Option, Some, All}
use Rattle.issuer_base.specs.Stores.{BothTold, Disk, LeavesOnly}
use Rattle.issuer_setup.specs.IssuerSetup.{Setup}
use Rattle.journal_rec.specs.Record.{IsRecord}
use Rattle.claim_words.specs.declared.layout.TheConstants.{COUNTERS}
use Rattle.claim_words.specs.declared.view.ClaimView.{ClaimView}
use Rattle.claim_words.specs.ClaimViews.{claims_on, times, is_live, is_kept, is_any}
use Rattle.turn_book.specs.declared.logs.Log.{Log}
use Rattle.turn_book.specs.declared.view.TurnView.{TurnView}
use Rattle.turn_book.specs.Logs.{items_at}
use Rattle.turn_book.specs.TurnRule.{between}
use Rattle.turn_book.specs.TurnViews.{times as times_placed}
use Rattle.shared_shards.specs.declared.logs.LogItem.{LogItem}
use Rattle.shared_shards.specs.declared.logs.LogHead.{LogHead}
use Rattle.shared_shards.specs.ShardLogs.{records_of, faults_of, RiseTo}
use Rattle.issuer_base.specs.declared.entry.Entry.{Entry}
use Rattle.shard_book.specs.Histories.{IsImageBetween, IsLegalSince}
use Rattle.host_loading.specs.Books.{ShardBook}
use Rattle.one_caller.specs.OneHistory.{LegalFrom, LegallyGoesOn}
use Rattle.shared_laws.specs.OpeningLogs.{opened_on}
use Rattle.one_caller.specs.Runs.{HoldsJournal}

-- the book of a log: its history, its store's fault count, and how many answers reported that the store failed
abbrev pub book_of : Log LogItem LogHead → ℕ → ShardBook
book_of log faults = record { history = records_of log.items; faults = faults; reported = length (faults_of log.items) }

-- by the stores' observable bytes and disks, and their fault counts
module _ {S : Type 0} (bytes : S → Option (List ℕ)) (disk : S → Option Disk) (faults : S → ℕ) where
  -- a shard's store, with its log as the host was loaded and as it was closed
  pub record IsClosed (issuer : Setup) (number : ℕ) (first last : Log LogItem LogHead) (store : S) : Type 0 where
    -- the history was extended by valid records, each new decision the table's
    pub goes_on : LegallyGoesOn issuer number (records_of first.items) (records_of last.items)
    -- so of each old history since which the first one is legal
    pub from : (old : List Entry) → IsLegalSince issuer number old (records_of first.items)
        → LegalFrom issuer number old (records_of first.items) (records_of last.items)
    pub records : All IsRecord (records_of last.items)
    -- the store holds its journal, and nothing is in doubt if no answer reported a fault
    pub holds : HoldsJournal issuer number (book_of last (faults store)) (bytes store) (disk store)
    -- whatever a crash since the log was opened may leave is an image of a history between the first and the last
    pub since : BothTold (LeavesOnly (IsImageBetween issuer number (records_of first.items) (records_of last.items)))
        first.head.opened (disk store)
    -- the fault counts that were reported rise from the first one to the store's
    pub rise : RiseTo first.head.faults (faults_of last.items) (faults store)

  -- so it is with each shard, in order
  pub record AreClosed (issuer : Setup) (opening seen : List (Log LogItem LogHead)) (stores : List S) : Type 0 where
    pub count_is : length stores ≡ issuer.shards
    pub each : (number : ℕ) (first last : Log LogItem LogHead) (store : S) → slice_get opening number ≡ Some first
        → slice_get seen number ≡ Some last
        → slice_get stores number ≡ Some store → IsClosed issuer number first last store

-- the indices of the items after the opening logs are exactly the view's own, each once
abbrev pub AreItsOwn : Setup → List (Log LogItem LogHead) → TurnView LogItem LogHead → Type 0
AreItsOwn issuer opening view =
    (shard place : ℕ) → shard < issuer.shards
    → times_placed shard place view.mine ≡ between (length (items_at opening shard))
    (length (items_at view.seen shard)) place

-- what the view knows of claims is what became of them
pub record AreClaimsSettled (issuer : Setup) (opening : List (Log LogItem LogHead)) (view : ClaimView) : Type 0 where
  -- an ATC whose claim was lost is recorded in the opening logs, or among the claims
  pub found : (card counter : ℕ) → counter < COUNTERS → 0 < times card counter view.found
      → 0 < opened_on issuer opening card counter + claims_on is_any card counter view.claims
  -- what was read from a top is recorded in the opening logs, or among the kept claims
  pub tops : (card counter : ℕ) → counter < COUNTERS → 0 < times card counter view.tops
      → 0 < opened_on issuer opening card counter + claims_on is_kept card counter view.claims
  -- each ATC of a card occurs at most once: in the opening logs, or as a claim that isn't given back
  pub once : (card counter : ℕ) → counter < COUNTERS
      → opened_on issuer opening card counter + claims_on is_live card counter view.claims ≤ 1
