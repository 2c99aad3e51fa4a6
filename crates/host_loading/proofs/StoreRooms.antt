-- The room that loading leaves of a host's stores.
use Rattle.std.proofs.Common.{◌≡◌, ℕ, ◌+◌, ◌≤◌, List, ◌∷◌, ◌++◌, length, Some, sym, ap, ◌∙◌, add-zero}
use Rattle.std.specs.List.{slice_get}
use Rattle.issuer_base.specs.declared.outside.store.Store.{Ghosts}
use Rattle.issuer_setup.specs.IssuerSetup.{Setup}
use Rattle.shard_book.specs.declared.shard.Shard.{Shard}
use Rattle.shard_book.specs.Loads.{HaveRoom as LoadHasRoom}
use Rattle.shard_book.specs.Room.{Spares}
use Rattle.shard_book.specs.Shards.{store_in}
use Rattle.shard_book.proofs.Rooms.{room-less}
use Rattle.host_loading.specs.Loading.{AreLoaded}
use Rattle.host_loading.specs.StoreRoom.{HaveRoom, StoresHaveRoom}
use Rattle.host_loading.proofs.Loads.{IsLoading, old-unread, shard-of}
use Rattle.host_loading.proofs.Places.{read-behind}

module _ {S : Type 0} {G : Ghosts S} where
  -- less room than there is
  pub spares-less : (more less : ℕ) (shard : Shard S G) → less ≤ more → Spares more shard → Spares less shard
  spares-less more less shard enough has = room-less more less (G.size (store_in shard)) (G.room (store_in shard)) enough has

  -- the shards that were loaded have the room that their stores had
  pub room-loaded : (issuer : Setup) (olds read stores : List S) (shards : List (Shard S G)) → AreLoaded issuer olds read stores shards → (spare : ℕ → ℕ)
      → StoresHaveRoom G.size G.room spare olds stores → HaveRoom spare shards
  room-loaded issuer olds read stores shards loaded spare have = record {
    each = λ number shard is.
        let its = shard-of issuer olds read stores shards loaded number shard is in
        its.from.room (spare number) (have.each number its.old its.store its.old_is its.store_is);
  }

  -- the next stores that are loaded have room
  pub room-next : (issuer : Setup) (olds read stores : List S) (shards : List (Shard S G)) (store : S) (ahead : List S)
      → IsLoading issuer olds read stores shards (store ∷ ahead) → (old : S) → slice_get read (length shards) ≡ Some old
      → StoresHaveRoom G.size G.room (λ _. 0) olds stores → LoadHasRoom 0 (G.size old) (G.room old) (G.size store) (G.room store)
  room-next issuer olds read stores shards store ahead loading old old_is have =
      let first = loading.first in
      have.each (length shards) old store (old-unread issuer olds read stores shards store ahead loading old old old_is)
      (ap (λ (all : List S). slice_get all (length shards)) loading.stores_are
      ∙ ap (slice_get (first ++ store ∷ ahead)) (loading.count_is ∙ sym (add-zero (length first))) ∙ read-behind first (store ∷ ahead) 0)
