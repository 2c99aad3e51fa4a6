-- What the opening of a journal over a store makes of it, or leaves of the store.
use Rattle.std.specs.Prelude.{◌≡◌, ℕ, false, true, List, [], ◌++◌, length, Option}
use Rattle.issuer_base.specs.OutsideFaults.{CountsFaults}
use Rattle.issuer_base.specs.Stores.{BothTold, CutsBytes, Disk, LeavesOnly}
use Rattle.issuer_base.specs.Tells.{Tells}
use Rattle.issuer_base.specs.declared.outside.store.Store.{Ghosts}
use Rattle.journal_store.specs.declared.journal.Journal.{Journal}
use Rattle.journal_store.specs.Holding.{Holds}
use Rattle.journal_store.specs.Images.{IsCutImage}

-- the journal of this store, whose first `sure` bytes are the text of so many records
pub record IsOpened {S : Type 0} {G : Ghosts S} (store : S) (sure records : ℕ) (journal : Journal S G) : Type 0 where
  -- it holds this text, and nothing is in doubt
  pub holds : (text rest : List ℕ) → length text ≡ sure → Tells (G.bytes store) (text ++ rest)
      → Holds journal records text []
  pub sure_is : journal.sure ≡ sure
  pub records_are : journal.records ≡ records
  pub settled : journal.in_doubt ≡ false
  -- meanwhile a crash leaves what it might leave before, or the text
  pub leaves :
      BothTold (λ old new. LeavesOnly (IsCutImage sure old.now) old new) (G.disk store) (G.disk journal.store)
  -- no call of the store failed
  pub counts : CountsFaults (G.faults store) (G.faults journal.store) false

-- by what is observable of stores: their bytes, their disks and their fault counts
module _ {S : Type 0} (bytes : S → Option (List ℕ)) (disk : S → Option Disk) (faults : S → ℕ) where
  -- the store failed while it was truncated to its first `sure` bytes, or synced
  pub record IsNotOpened (store : S) (sure : ℕ) (back : S) : Type 0 where
    -- its bytes are unchanged, or truncated
    pub kept : BothTold (CutsBytes sure true) (bytes store) (bytes back)
    pub leaves : BothTold (λ old new. LeavesOnly (IsCutImage sure old.now) old new) (disk store) (disk back)
    pub counts : CountsFaults (faults store) (faults back) true
