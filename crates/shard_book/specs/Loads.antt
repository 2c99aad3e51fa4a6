-- What loading a shard makes of its stores: the old one, of version 1, and the journal's own.
use Rattle.std.specs.Prelude.{◌≡◌, ℕ, ◌+◌, ◌≤◌, max, Bool, ◌||◌, false, List, length, Option, Result, IfOk, IfErr, MatchResult}
use Rattle.issuer_base.specs.OutsideFaults.{CountsFaults}
use Rattle.issuer_base.specs.Stores.{BothTold, Disk, HasRoom, LeavesOnly}
use Rattle.issuer_base.specs.declared.outside.store.Store.{Ghosts}
use Rattle.issuer_setup.specs.IssuerSetup.{Setup}
use Rattle.journal_rec.specs.RecordText.{version_line}
use Rattle.journal_store.specs.Images.{OnlyReads}
use Rattle.journal_store.specs.Opening.{IsOpened}
use Rattle.shard_book.specs.declared.replay.LoadFault.{LoadFault}
use Rattle.shard_book.specs.declared.replay.LoadFault.TheVariants.{NoMemory}
use Rattle.shard_book.specs.declared.replay.Taken.{Taken}
use Rattle.shard_book.specs.declared.shard.LoadBack.{LoadBack}
use Rattle.shard_book.specs.declared.shard.Shard.{Shard}
use Rattle.shard_book.specs.Loading.{IsOutside, StopsText, is_by_store, is_store_failure}
use Rattle.shard_book.specs.Room.{Spares}
use Rattle.shard_book.specs.ShardRows.{ShardRows}
use Rattle.shard_book.specs.Shards.{IsUnder, disk_in, faults_in, places_in, reported_in}
use Rattle.shard_book.specs.Shards.{IsUndoubted, IsLoaded, IsLoadImage, IsFailedImage, LeavesBytes, LeavesDisk}

-- how two fault counts change, each by failures of its own; a call failed just where one of them counted a failure
pub record CountsBoth (old old_then new new_then : ℕ) (failed : Bool) : Type 0 where
  pub first : Bool
  pub second : Bool
  pub first_counts : CountsFaults old old_then first
  pub second_counts : CountsFaults new new_then second
  pub either : failed ≡ (first || second)

-- the size that a store may grow to while it is loaded: its own, or that of the old store's text and the first line
abbrev pub loaded_size : ℕ → ℕ → ℕ
loaded_size old_size size = max size (length version_line + old_size)

-- both stores state their room, the old one's size is within its own, and so many more bytes than a load may need are
-- within the other's
pub record HaveRoom (spare : ℕ) (old_size : ℕ) (old_room : Option ℕ) (size : ℕ) (room : Option ℕ) : Type 0 where
  pub of_old : HasRoom 0 old_size old_room
  pub of_store : HasRoom spare (loaded_size old_size size) room

module _ {S : Type 0} {G : Ghosts S} where
  -- the shard with this number was loaded from the old store, which is now `old_then`, and the store
  pub record IsLoadedFrom (issuer : Setup) (number : ℕ) (old old_then store : S) (shard : Shard S G) : Type 0 where
    -- it stands for the history that the stores' bytes were taken for
    pub loaded : IsLoaded issuer number (G.bytes old) (G.bytes store) shard
    -- it is one of this issuer's shards
    pub under : IsUnder issuer shard
    -- it has at most as many records as its store may have bytes
    pub few : places_in shard ≤ loaded_size (G.size old) (G.size store)
    -- none of its answers has reported that the store failed, and nothing is in doubt
    pub untold : reported_in shard ≡ 0
    pub undoubted : IsUndoubted shard
    -- meanwhile a crash leaves what it might leave before, a prefix of the old history's text, or the history's text
    pub leaves :
        BothTold (λ before after. LeavesOnly (IsLoadImage loaded.old loaded.history before.now) before after)
        (G.disk store) (disk_in shard)
    -- no call of either store failed
    pub old_counts : CountsFaults (G.faults old) (G.faults old_then) false
    pub counts : CountsFaults (G.faults store) (faults_in shard) false
    -- room that the store had remains
    pub room : (spare : ℕ) → HaveRoom spare (G.size old) (G.room old) (G.size store) (G.room store) → Spares spare shard

  -- the load gives a shard of which this is true; only memory or the stores themselves can stop it
  abbrev pub LoadsAs : (Shard S G → Type 0) → Result (Shard S G) (LoadBack S) → Type 0
  LoadsAs Gives result = MatchResult result Gives (λ back. IsOutside back.fault)

  -- no store's failure stops it
  abbrev pub StoresWork : Result (Shard S G) (LoadBack S) → Type 0
  StoresWork result = IfErr result (λ back. is_store_failure back.fault ≡ false)

  -- the shard of these rows over a store whose first bytes are the text of the records that were replayed
  pub record IsOpenedFrom (store : S) (rows : ShardRows) (taken : Taken) (shard : Shard S G) : Type 0 where
    pub rows_are : shard.rows ≡ rows
    pub opened : IsOpened store taken.bytes taken.records shard.journal
    pub untold : reported_in shard ≡ 0

-- by what is observable of stores: their sizes, their bytes, their disks, their room and their fault counts
module _ {S : Type 0} (size : S → ℕ) (bytes : S → Option (List ℕ)) (disk : S → Option Disk) (room : S → Option ℕ) where
  -- the store was only read: nothing but its fault count and what it observed of reads may have changed
  pub record IsOnlyRead (old new : S) : Type 0 where
    pub size_is : size new ≡ size old
    pub bytes_are : bytes new ≡ bytes old
    pub disk_is : BothTold OnlyReads (disk old) (disk new)
    pub room_is : room new ≡ room old

  -- by their fault counts too
  module _ (faults : S → ℕ) where
    -- calls that only read a store, and whether one failed: none does where the store works at its size
    pub record Reads (failed : Bool) (old new : S) : Type 0 where
      pub only : IsOnlyRead old new
      pub works : HasRoom 0 (size old) (room old) → failed ≡ false
      pub counts : CountsFaults (faults old) (faults new) failed

    -- calls that only read two stores
    pub record ReadsBoth (failed : Bool) (old old_then store store_then : S) : Type 0 where
      pub old_read : IsOnlyRead old old_then
      pub read : IsOnlyRead store store_then
      pub works : HasRoom 0 (size old) (room old) → HasRoom 0 (size store) (room store) → failed ≡ false
      pub counts : CountsBoth (faults old) (faults old_then) (faults store) (faults store_then) failed

    -- calls that only read the old store, and append to the other until it has this size
    pub record MovesText (most : ℕ) (failed : Bool) (old old_then store store_then : S) : Type 0 where
      pub old_read : IsOnlyRead old old_then
      pub works : HasRoom 0 (size old) (room old) → HasRoom 0 most (room store) → failed ≡ false
      pub room_is : room store_then ≡ room store
      pub counts : CountsBoth (faults old) (faults old_then) (faults store) (faults store_then) failed

    -- what a load does to both stores before it opens the journal, by its result
    pub record TakesStores {X : Type 0} (result : Result X LoadFault) (old old_then store store_then : S) : Type 0 where
      pub moves :
          MovesText (loaded_size (size old) (size store)) (is_by_store result) old old_then store store_then
      pub grown : IfOk result (λ _. size store_then ≤ loaded_size (size old) (size store))
      -- if neither store failed, the store has the size that it had
      pub size_is : IfErr result (λ fault. is_store_failure fault ≡ false → size store_then ≡ size store)

module _ {S : Type 0} (size : S → ℕ) (bytes : S → Option (List ℕ)) (disk : S → Option Disk) (faults : S → ℕ) where
  -- the shard with this number can't be loaded from the old store and the store for this reason, and these are the two
  -- stores afterwards
  pub record IsNotLoaded (issuer : Setup) (number : ℕ) (old store : S) (fault : LoadFault) (old_then back : S)
      : Type 0 where
    -- the fault is that of the first bad line of the old text or of the text, or isn't a text's
    pub stops : StopsText issuer number (bytes old) (bytes store) fault
    -- the store has the bytes that it had; if a store failed they may be migrated in part or truncated to the records
    pub kept : LeavesBytes fault (bytes old) (bytes store) (bytes back)
    -- if neither store failed, it was only read, and has the same size
    pub still : LeavesDisk fault (disk store) (disk back)
    pub size_is : is_store_failure fault ≡ false → size back ≡ size store
    -- meanwhile a crash leaves what it might leave before, a prefix of the old history's text, or the text of the
    -- records alone
    pub leaves :
        BothTold (λ before after. LeavesOnly (IsFailedImage (bytes old) before.now) before after)
        (disk store) (disk back)
    -- a store's fault count increases just where a store is the reason
    pub counts : CountsBoth (faults old) (faults old_then) (faults store) (faults back) (is_store_failure fault)
    -- if memory is the reason, the stores are unchanged
    pub untouched : fault ≡ NoMemory → (old_then ≡ old) × (back ≡ store)
