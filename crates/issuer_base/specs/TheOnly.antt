-- The only value of which something holds.
use Rattle.std.specs.Prelude.{◌≡◌}

-- there is a value of which this holds, and it holds of no other
abbrev pub TheOnly : {A : Type 0} → (A → Type 0) → Type 0
TheOnly {A} Holds = (value : A) × Holds value × ((other : A) → Holds other → other ≡ value)

-- the value of which this holds. The second argument proves that there is one, and no other
abbrev pub the : {A : Type 0} → (Holds : A → Type 0) → TheOnly Holds → A
the Holds found = found.0
