-- The slots of a host's shards while they are loaded at once: what each has before its load, and after it.
use Rattle.std.specs.Prelude.{◌≡◌, ℕ, ◌<◌, false, List, length, slice_get, Option, None, Some, Result, Ok, Err, IsSome}
use Rattle.std.specs.Prelude.{IfErr, MatchResult, HoldsAt, option_and_then, option_map}
use Rattle.std.specs.List.{AllWithin}
use Rattle.issuer_base.specs.declared.outside.store.Store.{Ghosts}
use Rattle.issuer_setup.specs.IssuerSetup.{Setup}
use Rattle.shard_book.specs.declared.replay.LoadFault.{LoadFault}
use Rattle.shard_book.specs.declared.shard.LoadBack.{LoadBack}
use Rattle.shard_book.specs.declared.shard.Shard.{Shard}
use Rattle.shard_book.specs.Loading.{is_store_failure}
use Rattle.shard_book.specs.Loads.{HaveRoom, IsLoadedFrom, IsNotLoaded, IsOnlyRead}
use Rattle.shard_book.specs.Shards.{store_in}
use Rattle.host_loading.specs.declared.loading_together.Slot.{Slot}

module _ {S : Type 0} {G : Ghosts S} where
  -- the store of a shard that was loaded, or the one that came back
  abbrev pub store_of : Result (Shard S G) (LoadBack S) → S
  store_of (Ok shard) = store_in shard
  store_of (Err back) = back.store

  -- why a shard wasn't loaded
  abbrev pub fault_of : Result (Shard S G) (LoadBack S) → Option LoadFault
  fault_of (Ok shard) = None
  fault_of (Err back) = Some back.fault

  -- what a slot has of a shard that was loaded
  abbrev pub loaded_as : Shard S G → Option (Result (Shard S G) (LoadBack S))
  loaded_as shard = Some (Ok shard)

  -- the store that a load left in the slot
  abbrev pub left_in : Slot S G → Option S
  left_in slot = option_map store_of slot.loaded

  -- why the slot's shard wasn't loaded
  abbrev pub fault_in : Slot S G → Option LoadFault
  fault_in slot = option_and_then fault_of slot.loaded

  -- the slot's store waits to be loaded
  abbrev pub IsWaiting : Slot S G → Type 0
  IsWaiting slot = IsSome slot.store × (slot.loaded ≡ None)

  -- its load has ended
  abbrev pub HasEnded : Slot S G → Type 0
  HasEnded slot = (slot.store ≡ None) × IsSome slot.loaded

  -- the shard with this number was loaded from the old store, which is now `old_then`, and the store, or it wasn't
  abbrev pub Came : Setup → ℕ → S → S → S → Result (Shard S G) (LoadBack S) → Type 0
  Came issuer number old old_then store outcome = MatchResult outcome (IsLoadedFrom issuer number old old_then store)
      (λ back. IsNotLoaded G.size G.bytes G.disk G.faults issuer number old store back.fault old_then back.store)

  -- these stores of the shard with this number were tried, and the slot has what is left of them
  pub record HasTried (issuer : Setup) (number : ℕ) (old store : S) (slot : Slot S G) : Type 0 where
    pub outcome : Result (Shard S G) (LoadBack S)
    pub none_waits : slot.store ≡ None
    pub outcome_is : slot.loaded ≡ Some outcome
    pub came : Came issuer number old slot.old_store store outcome
    pub only : IsOnlyRead G.size G.bytes G.disk G.room old slot.old_store
    pub room : HaveRoom 0 (G.size old) (G.room old) (G.size store) (G.room store)
        → IfErr outcome (λ back. is_store_failure back.fault ≡ false)

  -- so it is with each shard's slot
  abbrev pub HaveTried : Setup → List (Slot S G) → List (Slot S G) → Type 0
  HaveTried issuer waiting tried =
      (number : ℕ) (before after : Slot S G) (store : S)
      → slice_get waiting number ≡ Some before → slice_get tried number ≡ Some after → before.store ≡ Some store
      → HasTried issuer number before.old_store store after

  -- this shard is the first that wasn't loaded, for this fault
  pub record IsFirstFailed (slots : List (Slot S G)) (failed : ℕ) (fault : LoadFault) : Type 0 where
    pub within : failed < length slots
    pub before : AllWithin (λ slot. fault_in slot ≡ None) slots 0 failed
    pub at : HoldsAt (λ slot. fault_in slot ≡ Some fault) slots failed
