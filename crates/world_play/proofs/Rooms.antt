-- The room of a run's stores at its start.
use Rattle.std.proofs.Common.{◌≡◌, ◌⊎◌, ℕ, zero, suc, ◌+◌, ◌*◌, ◌≤◌, List, [], ◌∷◌, ◌++◌, length, Some, refl, sym, ap, subst, inl, inr, arith, ◌∙◌}
use Rattle.std.specs.List.{slice_get}
use Rattle.store_edge.specs.RoomStores.{RoomState}
use Rattle.world_play.specs.Room.{HaveRoomToLoad, IsOpened, step_room, steps_of}

-- what stands in a list with one more at its end
push-cases : {X : Type 0} (xs : List X) (x : X) (place : ℕ) (y : X) → slice_get (xs ++ x ∷ []) place ≡ Some y
    → (slice_get xs place ≡ Some y) ⊎ ((place ≡ length xs) × (x ≡ y))
push-cases [] x zero y is = inr (refl, let e : Some x ≡ Some y = is in cc)
push-cases [] x (suc place) y is = absurd (cc)
push-cases (z ∷ xs) x zero y is = inl is
push-cases (z ∷ xs) x (suc place) y is =
    elim (push-cases xs x place y is) [
      | inl before ↦ inl before
      | inr last ↦ inr (ap suc last.0, last.1)
    ]

-- one store more, at the end
pub opened-more : (cards steps : ℕ) (stores : List RoomState) (store : RoomState)
    → ((shard : ℕ) (other : RoomState) → slice_get stores shard ≡ Some other → IsOpened cards steps shard other)
    → IsOpened cards steps (length stores) store
    → (shard : ℕ) (other : RoomState) → slice_get (stores ++ store ∷ []) shard ≡ Some other → IsOpened cards steps shard other
opened-more cards steps stores store before last shard other is =
    elim (push-cases stores store shard other is) [
      | inl there ↦ before shard other there
      | inr (at, same) ↦ subst (λ shard. IsOpened cards steps shard other) (sym at) (subst (IsOpened cards steps (length stores)) same last)
    ]

-- empty stores have all their room, but for the first line of a journal
room-within : (cards steps : ℕ) (spare : ℕ → ℕ) (olds stores : List RoomState)
    → ((shard : ℕ) (store : RoomState) → slice_get olds shard ≡ Some store → IsOpened cards 0 shard store)
    → ((shard : ℕ) (store : RoomState) → slice_get stores shard ≡ Some store → IsOpened cards steps shard store)
    → ((shard : ℕ) → spare shard ≤ step_room * steps_of cards shard steps) → HaveRoomToLoad spare olds stores
room-within cards steps spare olds stores old_opened opened few = record {
  each = λ shard old store old_is is.
      let its_old = old_opened shard old old_is in
      let its = opened shard store is in
      record {
        of_old = record { most = old.room; told = refl; within = omega (arith, its_old.room_is, ap length its_old.empty) };
        of_store = record {
          most = store.room;
          told = refl;
          within = omega (arith, its.room_is, ap length its.empty, ap length its_old.empty, few shard);
        };
      };
}

-- so they work
pub works-opened : (cards steps : ℕ) (olds stores : List RoomState)
    → ((shard : ℕ) (store : RoomState) → slice_get olds shard ≡ Some store → IsOpened cards 0 shard store)
    → ((shard : ℕ) (store : RoomState) → slice_get stores shard ≡ Some store → IsOpened cards steps shard store)
    → HaveRoomToLoad (λ _. 0) olds stores
works-opened cards steps olds stores old_opened opened =
    room-within cards steps (λ _. 0) olds stores old_opened opened (λ shard. omega arith)

-- and have room for the steps
pub room-opened : (cards steps : ℕ) (olds stores : List RoomState)
    → ((shard : ℕ) (store : RoomState) → slice_get olds shard ≡ Some store → IsOpened cards 0 shard store)
    → ((shard : ℕ) (store : RoomState) → slice_get stores shard ≡ Some store → IsOpened cards steps shard store)
    → HaveRoomToLoad (λ shard. step_room * steps_of cards shard steps) olds stores
room-opened cards steps olds stores old_opened opened =
    room-within cards steps (λ shard. step_room * steps_of cards shard steps) olds stores old_opened opened (λ shard. omega arith)

-- a new store
pub opened-new : (cards steps shard count : ℕ) (store : RoomState) → store ≡ record { held = []; room = 64 + step_room * count; faults = 0 }
    → count ≡ steps_of cards shard steps → IsOpened cards steps shard store
opened-new cards steps shard count store made counted = record {
  empty = ap (λ (store : RoomState). store.held) made;
  faults_are = ap (λ (store : RoomState). store.faults) made;
  room_is = ap (λ (store : RoomState). store.room) made ∙ ap (λ count. 64 + step_room * count) counted;
}
