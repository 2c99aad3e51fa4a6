-- The room of a host's stores, before its shards are loaded and after.
use Rattle.std.specs.Prelude.{◌≡◌, ℕ, false, List, Option, Some, slice_get}
use Rattle.issuer_base.specs.declared.outside.store.Store.{Ghosts}
use Rattle.shard_book.specs.declared.replay.LoadFault.{LoadFault}
use Rattle.shard_book.specs.declared.shard.Shard.{Shard}
use Rattle.shard_book.specs.Loading.{is_store_failure}
use Rattle.shard_book.specs.Loads.{HaveRoom as LoadHasRoom}
use Rattle.shard_book.specs.Room.{Spares}

-- the room of each old store and of each store is known, and so many more bytes, by its index, than a load may need are
-- within the store's
pub record StoresHaveRoom {S : Type 0} (size : S → ℕ) (room : S → Option ℕ) (spare : ℕ → ℕ) (olds stores : List S)
    : Type 0 where
  pub each : (number : ℕ) (old store : S) → slice_get olds number ≡ Some old → slice_get stores number ≡ Some store
      → LoadHasRoom (spare number) (size old) (room old) (size store) (room store)

-- if each store has room for a load, the load of a host didn't stop because a store failed
abbrev pub StoresWork : {S : Type 0} → (S → ℕ) → (S → Option ℕ) → List S → List S → LoadFault → Type 0
StoresWork size room olds stores fault = StoresHaveRoom size room (λ _. 0) olds stores → is_store_failure fault ≡ false

-- the room of each shard's store is known, and so many more bytes, by the shard's number, are within it
pub record HaveRoom {S : Type 0} {G : Ghosts S} (spare : ℕ → ℕ) (shards : List (Shard S G)) : Type 0 where
  pub each : (number : ℕ) (shard : Shard S G) → slice_get shards number ≡ Some shard → Spares (spare number) shard
