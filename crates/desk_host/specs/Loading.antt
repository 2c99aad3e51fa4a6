-- Why the journals of an issuer's shards gave no host.
use Rattle.std.specs.Prelude.{◌≡◌, ℕ, ◌<◌, ◌⊎◌, Bool, true, false, List, [], length, slice_get, Option, Some, Result, Err}
use Rattle.issuer_base.specs.Desk.{FailedCall}
use Rattle.issuer_base.specs.OutsideFaults.{Rose}
use Rattle.issuer_base.specs.declared.entry.Entry.{Entry}
use Rattle.issuer_base.specs.declared.outside.Desk.{Ghosts as Desk}
use Rattle.issuer_base.specs.declared.outside.DeskCall.TheVariants.{Log}
use Rattle.issuer_base.specs.declared.outside.store.Store.{Ghosts as Store}
use Rattle.answer_text.specs.declared.stop_line.Stop.{Stop}
use Rattle.answer_text.specs.declared.stop_line.Stop.TheVariants.{Usage, Config, ReadFault, StoreFault, BadJournal}
use Rattle.answer_text.specs.declared.stop_line.Stop.TheVariants.{BadOldJournal, NoMemory, TooLong, BadDol, BadData, NoKey}
use Rattle.answer_text.specs.declared.stop_line.Stop.TheVariants.{BadFeed}
use Rattle.issuer_setup.specs.IssuerSetup.{Setup}
use Rattle.shard_book.specs.declared.replay.LoadFault.{LoadFault}
use Rattle.shard_book.specs.declared.replay.LoadFault.TheVariants.{OldLine, OldRecord, BadLine, BadRecord}
use Rattle.shard_book.specs.declared.replay.LoadFault.TheVariants.{StoreFault as FailedStore, NoMemory as NoRoom}
use Rattle.shard_book.specs.Loading.{StopsText}
use Rattle.shard_book.specs.Shards.{IsJournalOf}
use Rattle.host_loading.specs.declared.loading.HostBack.{HostBack}
use Rattle.desk_host.specs.declared.journals.NoHost.{NoHost}
use Rattle.desk_host.specs.SeenStores.{Logged, SeenStore, SeenJournals, journals_seen}
use Rattle.desk_host.specs.Journals.{old_name, journal_name, AreOpened}
use Rattle.desk_host.specs.Left.{LeaveJournals}

-- the desk's counts of faults before and after, and its last call that failed
pub record DeskFaults : Type 0 where
  pub before : ℕ
  pub after : ℕ
  pub last : Option FailedCall

-- those of a desk that was such and is so now
abbrev pub faults_seen : {D I J : Type 0} → Desk D I J → D → D → DeskFaults
faults_seen desk before after = record {
  before = desk.faults before;
  after = desk.faults after;
  last =
      desk.last_fault after;
}

-- the desk failed, and its last failed call is the opening of the journal under this name
pub record FailsAt (desk : DeskFaults) (name : List ℕ) : Type 0 where
  pub rose : Rose desk.before desk.after
  pub call_is : desk.last ≡ Some (record { call = Log; name = name })

-- the desk failed at the name of this shard's old journal, once those of the shards before were opened
pub record FailsToLogOld (issuer : Setup) (prefix : List ℕ) (desk : DeskFaults) (journals : SeenJournals)
    (shard : ℕ) : Type 0 where
  pub within : shard < issuer.shards
  pub olds_are : length journals.olds ≡ shard
  pub no_stores : journals.stores ≡ []
  pub fails : FailsAt desk (old_name prefix shard)

-- the desk failed at the name of this shard's journal, once all old ones and those of the shards before were opened
pub record FailsToLog (issuer : Setup) (prefix : List ℕ) (desk : DeskFaults) (journals : SeenJournals)
    (shard : ℕ) : Type 0 where
  pub within : shard < issuer.shards
  pub olds_are : length journals.olds ≡ issuer.shards
  pub stores_are : length journals.stores ≡ shard
  pub fails : FailsAt desk (journal_name prefix shard)

-- all journals were opened, old and new, and the desk failed at none
pub record HasOpenedAll (issuer : Setup) (desk : DeskFaults) (journals : SeenJournals) : Type 0 where
  pub olds_are : length journals.olds ≡ issuer.shards
  pub stores_are : length journals.stores ≡ issuer.shards
  pub desk_stood : desk.after ≡ desk.before

-- this shard was loaded: where the desk told of its journals, they were those of a legal history since an old one; and
-- their stores counted no fault
pub record HasLoaded (issuer : Setup) (shard : ℕ) (old_held held : Option (List ℕ)) (old_store store : SeenStore)
    : Type 0 where
  pub old : List Entry
  pub history : List Entry
  pub journal_is : IsJournalOf issuer shard old_held held old history
  pub old_no_fault : old_store.faults ≡ 0
  pub no_fault : store.faults ≡ 0

-- so was each shard with a lower number
abbrev pub HaveLoadedBelow : Setup → List ℕ → Logged → SeenJournals → ℕ → Type 0
HaveLoadedBelow issuer prefix logs journals shard =
    (lower : ℕ) (old store : SeenStore) → lower < shard
    → slice_get journals.olds lower ≡ Some old → slice_get journals.stores lower ≡ Some store
    → HasLoaded issuer lower (logs (old_name prefix lower)) (logs (journal_name prefix lower)) old store

-- a store of this shard's failed while it was loaded, its old one or its own, once the shards before were
pub record FailsToLoad (issuer : Setup) (prefix : List ℕ) (logs : Logged) (desk : DeskFaults) (journals : SeenJournals)
    (shard : ℕ) : Type 0 where
  pub opened : HasOpenedAll issuer desk journals
  pub within : shard < issuer.shards
  pub before : HaveLoadedBelow issuer prefix logs journals shard
  pub old : SeenStore
  pub store : SeenStore
  pub old_is : slice_get journals.olds shard ≡ Some old
  pub store_is : slice_get journals.stores shard ≡ Some store
  pub failed : (0 < old.faults) ⊎ (0 < store.faults)

-- the fault is that of the line with this number of a journal: it isn't the migrated one, is that of no record, or of
-- one that may not come next
abbrev pub IsBadLine : ℕ → LoadFault → Type 0
IsBadLine line fault = (fault ≡ BadLine line) ⊎ (fault ≡ BadRecord line)

-- the fault is that of the line with this number of an old journal
abbrev pub IsBadOldLine : ℕ → LoadFault → Type 0
IsBadOldLine line fault = (fault ≡ OldLine line) ⊎ (fault ≡ OldRecord line)

-- the shards before were loaded; where the desk told of this shard's journals, a load of them stops with such a fault
pub record IsBadAt (issuer : Setup) (prefix : List ℕ) (logs : Logged) (desk : DeskFaults) (journals : SeenJournals)
    (shard : ℕ) (IsSuch : LoadFault → Type 0) : Type 0 where
  pub opened : HasOpenedAll issuer desk journals
  pub within : shard < issuer.shards
  pub before : HaveLoadedBelow issuer prefix logs journals shard
  pub fault : LoadFault
  pub fault_is : IsSuch fault
  pub stops : StopsText issuer shard (logs (old_name prefix shard)) (logs (journal_name prefix shard)) fault

-- why there is no host
abbrev pub GivesNoHost : Setup → List ℕ → Logged → DeskFaults → SeenJournals → Stop → Type 0
GivesNoHost issuer prefix logs desk journals (StoreFault shard) =
    FailsToLogOld issuer prefix desk journals shard
    ⊎ (FailsToLog issuer prefix desk journals shard ⊎ FailsToLoad issuer prefix logs desk journals shard)
GivesNoHost issuer prefix logs desk journals (BadJournal shard line) =
    IsBadAt issuer prefix logs desk journals shard (IsBadLine line)
GivesNoHost issuer prefix logs desk journals (BadOldJournal shard line) =
    IsBadAt issuer prefix logs desk journals shard (IsBadOldLine line)
GivesNoHost issuer prefix logs desk journals NoMemory = desk.after ≡ desk.before
GivesNoHost issuer prefix logs desk journals Usage = ⊥
GivesNoHost issuer prefix logs desk journals (Config part index) = ⊥
GivesNoHost issuer prefix logs desk journals ReadFault = ⊥
GivesNoHost issuer prefix logs desk journals (TooLong line) = ⊥
GivesNoHost issuer prefix logs desk journals (BadDol at) = ⊥
GivesNoHost issuer prefix logs desk journals (BadData at) = ⊥
GivesNoHost issuer prefix logs desk journals (BadFeed line) = ⊥
GivesNoHost issuer prefix logs desk journals NoKey = ⊥

-- how a run stops where this shard can't be opened or loaded
abbrev pub stop_of_load : LoadFault → ℕ → Stop
stop_of_load FailedStore shard = StoreFault shard
stop_of_load (OldLine line) shard = BadOldJournal shard line
stop_of_load (OldRecord line) shard = BadOldJournal shard line
stop_of_load (BadLine line) shard = BadJournal shard line
stop_of_load (BadRecord line) shard = BadJournal shard line
stop_of_load NoRoom shard = NoMemory

-- a desk's journals gave no host, for the fault of this shard; the old ones stay, and so do all whole lines of the
-- others
pub record ComesToNoHost {D I J : Type 0} (desk : Desk D I J) (store : Store J) (issuer : Setup) (prefix : List ℕ)
    (before after : D) (none : NoHost J) : Type 0 where
  pub why : GivesNoHost issuer prefix (desk.logs before) (faults_seen desk before after)
      (journals_seen store none.journals.olds.items none.journals.stores.items) (stop_of_load none.fault none.shard)
  pub left : LeaveJournals prefix (desk.logs before)
      (journals_seen store none.journals.olds.items none.journals.stores.items)

-- why a journal can't be opened
abbrev pub IsUnopened : LoadFault → Type 0
IsUnopened fault = (fault ≡ FailedStore) ⊎ (fault ≡ NoRoom)

-- whether the desk failed at it
abbrev pub is_log_fault : {T : Type 0} → Result T LoadFault → Bool
is_log_fault (Err FailedStore) = true
is_log_fault _ = false

-- the desk failed at the name of this shard's journal, or memory was wanting; those of the shards before were opened
pub record CannotOpen {D I J : Type 0} (desk : Desk D I J) (store : Store J) (name : ℕ → List ℕ) (shards : ℕ)
    (before after : D) (back : HostBack J) : Type 0 where
  pub within : back.shard < shards
  pub stores_are : length back.stores.items ≡ back.shard
  pub opened : AreOpened store name (desk.logs before) back.stores.items
  pub why : ((back.fault ≡ FailedStore) × FailsAt (faults_seen desk before after) (name back.shard))
      ⊎ ((back.fault ≡ NoRoom) × (desk.faults after ≡ desk.faults before))
