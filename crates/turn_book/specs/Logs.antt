-- Logs of shards, and the values that stand for them.
use Rattle.std.specs.Prelude.{◌≡◌, ℕ, zero, suc, List, [], ◌∷◌, length, map, take}
use Rattle.turn_book.specs.declared.logs.Log.{Log}

-- the heads of the logs
abbrev pub heads_of : {I B : Type 0} → List (Log I B) → List B
heads_of logs = map (λ log. log.head) logs

-- the items of the shard's log
abbrev pub items_at : {I B : Type 0} → List (Log I B) → ℕ → List I
items_at [] shard = []
items_at (log ∷ logs) zero = log.items
items_at (log ∷ logs) (suc shard) = items_at logs shard

-- the logs, with these items in the shard's
abbrev pub with_items : {I B : Type 0} → List (Log I B) → ℕ → List I → List (Log I B)
with_items [] shard items = []
with_items (log ∷ logs) zero items = record log { items = items } ∷ logs
with_items (log ∷ logs) (suc shard) items = log ∷ with_items logs shard items

-- the first list is a prefix of the second
abbrev pub IsFront : {I : Type 0} → List I → List I → Type 0
IsFront front items = take (length front) items ≡ front

-- the value stands for the shard's log
abbrev pub StandsAt : {V I B : Type 0} → (V → B → List I → Type 0) → V → List (Log I B) → ℕ → Type 0
StandsAt stands value [] shard = ⊥
StandsAt stands value (log ∷ logs) zero = stands value log.head log.items
StandsAt stands value (log ∷ logs) (suc shard) = StandsAt stands value logs shard

-- the values stand for the logs, one for each
abbrev pub StandFor : {V I B : Type 0} → (V → B → List I → Type 0) → List V → List (Log I B) → Type 0
StandFor stands [] [] = Unit {0}
StandFor stands (value ∷ values) (log ∷ logs) = stands value log.head log.items × StandFor stands values logs
StandFor stands _ _ = ⊥
