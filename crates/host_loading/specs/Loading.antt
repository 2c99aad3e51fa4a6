-- What loading the shards of a host makes of their stores: the old ones, of version 1, and those of their journals.
use Rattle.std.specs.Prelude.{◌≡◌, ◌⊎◌, ℕ, ◌<◌, false, List, length, slice_get, Option, Some}
use Rattle.issuer_base.specs.OutsideFaults.{CountsFaults}
use Rattle.issuer_base.specs.Stores.{BothTold, Disk, LeavesOnly}
use Rattle.issuer_base.specs.Tells.{Tells}
use Rattle.issuer_base.specs.declared.entry.Entry.{Entry}
use Rattle.issuer_base.specs.declared.outside.store.Store.{Ghosts}
use Rattle.issuer_setup.specs.IssuerSetup.{Setup}
use Rattle.journal_rec.specs.RecordText.{journal_text}
use Rattle.shard_book.specs.declared.replay.LoadFault.{LoadFault}
use Rattle.shard_book.specs.declared.shard.Shard.{Shard}
use Rattle.shard_book.specs.Loads.{IsLoadedFrom, IsNotLoaded, IsOnlyRead}
use Rattle.shard_book.specs.Shards.{IsJournalOf, IsLoadImage}

-- `olds` are the old stores before the call, and `read` the same stores after it

-- there is an old store and a store for each shard of the issuer
abbrev pub AreStoresOf : {S : Type 0} → Setup → List S → List S → Type 0
AreStoresOf issuer olds stores = (length olds ≡ issuer.shards) × (length stores ≡ issuer.shards)

module _ {S : Type 0} {G : Ghosts S} where
  -- each shard was loaded from the old store and the store with its index
  pub record AreLoaded (issuer : Setup) (olds read stores : List S) (shards : List (Shard S G)) : Type 0 where
    pub olds_are : length olds ≡ length stores
    pub read_are : length read ≡ length stores
    pub count_is : length shards ≡ length stores
    pub each : (number : ℕ) (old old_then store : S) (shard : Shard S G)
        → slice_get olds number ≡ Some old → slice_get read number ≡ Some old_then
        → slice_get stores number ≡ Some store → slice_get shards number ≡ Some shard
        → IsLoadedFrom issuer number old old_then store shard

-- by what is observable of stores: their sizes, their bytes, their disks and their room
module _ {S : Type 0} (size : S → ℕ) (bytes : S → Option (List ℕ)) (disk : S → Option Disk) (room : S → Option ℕ) where
  -- each old store was only read
  pub record AreOnlyRead (olds read : List S) : Type 0 where
    pub count_is : length read ≡ length olds
    pub each : (number : ℕ) (old old_then : S)
        → slice_get olds number ≡ Some old → slice_get read number ≡ Some old_then
        → IsOnlyRead size bytes disk room old old_then

-- by what is observable of stores: their bytes, their disks and their fault counts
module _ {S : Type 0} (bytes : S → Option (List ℕ)) (disk : S → Option Disk) (faults : S → ℕ) where
  -- the store was loaded and is returned: it was migrated or truncated to the text of a history, which is legal since
  -- that of the old store; meanwhile a crash leaves what it might leave before, a prefix of the old history's text, or
  -- the text; and no call of either store failed
  pub record IsGivenBack (issuer : Setup) (number : ℕ) (old old_then store back : S) : Type 0 where
    pub old_history : List Entry
    pub history : List Entry
    pub journal_is : IsJournalOf issuer number (bytes old) (bytes store) old_history history
    pub cut : Tells (bytes back) (journal_text history)
    pub leaves :
        BothTold (λ before after. LeavesOnly (IsLoadImage old_history history before.now) before after)
        (disk store) (disk back)
    pub old_counts : CountsFaults (faults old) (faults old_then) false
    pub counts : CountsFaults (faults store) (faults back) false

-- and by their sizes
module _ {S : Type 0} (size : S → ℕ) (bytes : S → Option (List ℕ)) (disk : S → Option Disk) (faults : S → ℕ) where
  -- the stores are returned in order: those before the one that failed as they were loaded, that one as it wasn't, and
  -- those behind it as `Behind` says of a shard's stores, the old one and its own, before and after; so are the old
  -- stores
  pub record ComeBackBy (Behind : ℕ → S → S → S → S → Type 0) (issuer : Setup) (olds read stores : List S)
      (failed : ℕ) (fault : LoadFault) (back : List S) : Type 0 where
    pub olds_are : length olds ≡ length stores
    pub read_are : length read ≡ length stores
    pub count_is : length back ≡ length stores
    pub within : failed < length stores
    pub before : (number : ℕ) (old old_then store after : S) → number < failed
        → slice_get olds number ≡ Some old → slice_get read number ≡ Some old_then
        → slice_get stores number ≡ Some store → slice_get back number ≡ Some after
        → IsGivenBack bytes disk faults issuer number old old_then store after
    pub at : (old old_then store after : S)
        → slice_get olds failed ≡ Some old → slice_get read failed ≡ Some old_then
        → slice_get stores failed ≡ Some store → slice_get back failed ≡ Some after
        → IsNotLoaded size bytes disk faults issuer failed old store fault old_then after
    pub behind : (number : ℕ) (old old_then store after : S) → failed < number
        → slice_get olds number ≡ Some old → slice_get read number ≡ Some old_then
        → slice_get stores number ≡ Some store → slice_get back number ≡ Some after
        → Behind number old old_then store after

  -- where the shards were loaded one after another, the stores behind the one that failed are unchanged
  abbrev pub ComeBack : Setup → List S → List S → List S → ℕ → LoadFault → List S → Type 0
  ComeBack = ComeBackBy (λ number old old_then store after. (old_then ≡ old) × (after ≡ store))

  -- what the load of one shard leaves of its stores: it was loaded, or it wasn't, for some fault
  abbrev pub IsLeftByLoad : Setup → ℕ → S → S → S → S → Type 0
  IsLeftByLoad issuer number old old_then store after =
      IsGivenBack bytes disk faults issuer number old old_then store after
      ⊎ ((fault : LoadFault) × IsNotLoaded size bytes disk faults issuer number old store fault old_then after)

  -- where they were loaded at once, each store behind it is left by its own load
  abbrev pub ComeBackTogether : Setup → List S → List S → List S → ℕ → LoadFault → List S → Type 0
  ComeBackTogether issuer = ComeBackBy (IsLeftByLoad issuer) issuer
