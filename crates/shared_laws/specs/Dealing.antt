-- Lines that are dealt in turns to callers.
use Rattle.std.specs.Prelude.{◌≡◌, ℕ, zero, suc, ◌-◌, List, [], ◌∷◌, ◌++◌, length, slice_get, Some}

-- every `count`-th item from index `skip` on: the items that are dealt in turns to the caller with number `skip`
abbrev pub every : {A : Type 0} → ℕ → ℕ → List A → List A
every count skip [] = []
every count zero (item ∷ items) = item ∷ every count (count - 1) items
every count (suc skip) (item ∷ items) = every count skip items

-- these items are dealt in turns to the lanes after those of `before`, and each lane has its own of them
abbrev pub HaveTurns : {L A : Type 0} → (L → List A) → List L → List A → List A → Type 0
HaveTurns {L} items_of lanes before items =
    (number : ℕ) (lane : L) → slice_get lanes number ≡ Some lane
    → every (length lanes) number (before ++ items) ≡ every (length lanes) number before ++ items_of lane
