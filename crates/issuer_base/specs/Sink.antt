-- What a sink has after a whole piece was written, in as many calls as it took.
use Rattle.std.specs.Prelude.{ℕ, ◌<◌, List, length, take, Option, Result, MatchResult}
use Rattle.std.specs.Io.KnownBytes.{Appends}

-- a proper prefix of the piece was appended, and nothing else
abbrev pub AppendsFront : Option (List ℕ) → Option (List ℕ) → List ℕ → Type 0
AppendsFront old new piece = (n : ℕ) × (n < length piece) × Appends old new (take n piece)

-- at Ok the whole piece was appended, and at a fault a proper prefix of it
abbrev pub WritesAll : {T E : Type 0} → Option (List ℕ) → Option (List ℕ) → Result T E → List ℕ → Type 0
WritesAll old new answer piece = MatchResult answer (λ _. Appends old new piece) (λ _. AppendsFront old new piece)
