-- A shard stands for the log with its number as it does for the log's head and items.
use Rattle.std.proofs.Common.{◌≡◌, ℕ, zero, suc, ◌<◌, List, [], ◌∷◌, length, Some, refl, subst, arith}
use Rattle.std.specs.List.{slice_get}
use Rattle.std.proofs.lemmas.Option.{same_Some}
use Rattle.issuer_base.specs.declared.outside.store.Store.{Ghosts}
use Rattle.turn_book.specs.declared.logs.Log.{Log}
use Rattle.turn_book.specs.Logs.{heads_of, items_at, with_items, StandsAt}
use Rattle.shared_shards.specs.declared.locked_shard.LockedShard.{LockedShard}
use Rattle.shared_shards.specs.declared.logs.LogHead.{LogHead}
use Rattle.shared_shards.specs.declared.logs.LogItem.{LogItem}
use Rattle.shared_shards.specs.ShardLogs.{StandsForLog}
use Rattle.shared_shards.specs.ShardSeats.{StandsIn}

module _ {V I B : Type 0} where
  pub stands-open : (stands : V → B → List I → Type 0) (value : V) (logs : List (Log I B)) (shard : ℕ) (head : B)
      → slice_get (heads_of logs) shard ≡ Some head
      → StandsAt stands value logs shard → stands value head (items_at logs shard)
  stands-open stands value [] shard head is here = absurd here
  stands-open stands value (log ∷ logs) zero head is here = subst (λ (head : B). stands value head log.items) (same_Some log.head head is) here
  stands-open stands value (log ∷ logs) (suc shard) head is here = stands-open stands value logs shard head is here

  pub stands-close : (stands : V → B → List I → Type 0) (value : V) (logs : List (Log I B)) (shard : ℕ) (head : B) (items : List I)
      → slice_get (heads_of logs) shard ≡ Some head → stands value head items → StandsAt stands value (with_items logs shard items) shard
  stands-close stands value [] shard head items is stands_for = absurd (cc)
  stands-close stands value (log ∷ logs) zero head items is stands_for =
      let same : head ≡ log.head = let back : Some log.head ≡ Some head = is in cc in
      subst (λ (head : B). stands value head items) same stands_for
  stands-close stands value (log ∷ logs) (suc shard) head items is stands_for = stands-close stands value logs shard head items is stands_for

module _ {I B : Type 0} where
  pub head-at : (logs : List (Log I B)) (shard : ℕ) → shard < length logs → (head : B) × (slice_get (heads_of logs) shard ≡ Some head)
  head-at [] shard below = absurd (omega arith)
  head-at (log ∷ logs) zero below = (log.head, refl)
  head-at (log ∷ logs) (suc shard) below = head-at logs shard (omega arith)

  -- items that are written twice are the second ones
  pub with-with : (logs : List (Log I B)) (shard : ℕ) (first second : List I)
      → with_items (with_items logs shard first) shard second ≡ with_items logs shard second
  with-with [] shard first second = refl
  with-with (log ∷ logs) zero first second = refl
  with-with (log ∷ logs) (suc shard) first second = λ i. log ∷ with-with logs shard first second i

module _ {S : Type 0} {G : Ghosts S} where
  pub held-stands : (held : LockedShard S G) (logs : List (Log LogItem LogHead)) (shard : ℕ)
      → StandsAt (λ (held : LockedShard S G) head items. StandsForLog held.shard head items) held logs shard → StandsIn held.shard logs shard
  held-stands held [] shard here = here
  held-stands held (log ∷ logs) zero here = here
  held-stands held (log ∷ logs) (suc shard) here = held-stands held logs shard here

  pub stands-held : (held : LockedShard S G) (logs : List (Log LogItem LogHead)) (shard : ℕ) → StandsIn held.shard logs shard
      → StandsAt (λ (held : LockedShard S G) head items. StandsForLog held.shard head items) held logs shard
  stands-held held [] shard here = here
  stands-held held (log ∷ logs) zero here = here
  stands-held held (log ∷ logs) (suc shard) here = stands-held held logs shard here
