-- What was seen of journals, and the stores that were seen.
use Rattle.std.proofs.Common.{◌≡◌, ℕ, ◌<◌, zero, suc, List, [], ◌∷◌, length, Option, None, Some, refl, ap, subst, arith}
use Rattle.std.specs.Prelude.{slice_get, map, IfSome}
use Rattle.issuer_base.specs.Tells.{Tells}
use Rattle.issuer_base.specs.declared.entry.Entry.{Entry}
use Rattle.issuer_base.specs.declared.outside.store.Store.{Ghosts}
use Rattle.issuer_setup.specs.IssuerSetup.{Setup}
use Rattle.shard_book.specs.declared.shard.Shard.{Shard}
use Rattle.shard_book.specs.Shards.{store_in, IsJournalOf}
use Rattle.desk_host.specs.SeenStores.{SeenStore, store_seen}

-- what stands at a place within a list
pub at-place : {X : Type 0} → (xs : List X) (k : ℕ) → k < length xs → (x : X) × (slice_get xs k ≡ Some x)
at-place [] k within = absurd (omega (arith, within))
at-place (x ∷ xs) zero within = (x, refl)
at-place (x ∷ xs) (suc k) within = at-place xs k (omega (arith, within))

-- a list has as many values as elements
pub mapped : {X Y : Type 0} → (f : X → Y) (xs : List X) → length (map f xs) ≡ length xs
mapped f [] = refl
mapped f (x ∷ xs) = ap suc (mapped f xs)

-- what the desk tells of a store that tells its bytes, they are
pub held-told : (held bytes : Option (List ℕ)) (text : List ℕ) → IfSome held (λ told. bytes ≡ Some told)
    → Tells bytes text → Tells held text
held-told None bytes text same tells = tt
held-told (Some told) bytes text same tells = subst (λ (b : Option (List ℕ)). Tells b text) same tells

-- what is true of the bytes of a store is true of what the desk told of it
pub told-held : (P : List ℕ → Type 0) (held bytes : Option (List ℕ)) → IfSome held (λ told. bytes ≡ Some told)
    → IfSome bytes P → IfSome held P
told-held P None bytes same holds = tt
told-held P (Some told) bytes same holds = subst (λ (b : Option (List ℕ)). IfSome b P) same holds

-- so the desk told of the journals of a history what the stores held
pub journal-held : (issuer : Setup) (shard : ℕ) (old_held held old_bytes bytes : Option (List ℕ))
    (old history : List Entry) → IfSome old_held (λ told. old_bytes ≡ Some told)
    → IfSome held (λ told. bytes ≡ Some told) → IsJournalOf issuer shard old_bytes bytes old history
    → IsJournalOf issuer shard old_held held old history
journal-held issuer shard old_held held old_bytes bytes old history old_same same is = record {
  old_text_is = told-held _ old_held old_bytes old_same is.old_text_is;
  text_is = told-held _ held bytes same is.text_is;
  old_records = is.old_records;
  records = is.records;
  since = is.since;
}

-- a store that was seen is one of these
pub seen-store : {S : Type 0} (G : Ghosts S) (stores : List S) (k : ℕ) (seen : SeenStore)
    → slice_get (map (store_seen G) stores) k ≡ Some seen
    → (store : S) × (slice_get stores k ≡ Some store) × (store_seen G store ≡ seen)
seen-store G [] k seen is = absurd (let e : None ≡ Some seen = is in cc)
seen-store G (store ∷ stores) zero seen is = (store, refl, (let e : Some (store_seen G store) ≡ Some seen = is in cc))
seen-store G (store ∷ stores) (suc k) seen is = seen-store G stores k seen is

module _ {S : Type 0} {G : Ghosts S} where
  -- a store that was seen is that of a shard
  pub seen-at : (shards : List (Shard S G)) (k : ℕ) (store : SeenStore)
      → slice_get (map (store_seen G) (map store_in shards)) k ≡ Some store
      → (shard : Shard S G) × (slice_get shards k ≡ Some shard) × (store_seen G (store_in shard) ≡ store)
  seen-at [] k store is = absurd (let e : None ≡ Some store = is in cc)
  seen-at (shard ∷ shards) zero store is =
      (shard, refl, (let e : Some (store_seen G (store_in shard)) ≡ Some store = is in cc))
  seen-at (shard ∷ shards) (suc k) store is = seen-at shards k store is
