-- The next line of a text.
use Rattle.std.specs.Prelude.{◌≡◌, ℕ, ◌+◌, ◌<◌, List, [], ◌∷◌, ◌++◌, length, take}
use Rattle.journal_rec.specs.RecordText.{newline, IsUnbroken}

-- the first so many bytes are a line, which a newline ends
pub record IsLineAhead (bytes : List ℕ) (count : ℕ) : Type 0 where
  pub within : count < length bytes
  pub unbroken : IsUnbroken (take count bytes)
  pub ends : take (count + 1) bytes ≡ take count bytes ++ newline ∷ []

-- the text begins with a whole line
abbrev pub HasLineAhead : List ℕ → Type 0
HasLineAhead bytes = (count : ℕ) × IsLineAhead bytes count
