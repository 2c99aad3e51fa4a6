-- The lines of a text: each ends at a newline, and what follows the last newline is a line too, if it isn't empty.
use Rattle.std.specs.Prelude.{◌≡◌, ◌≢◌, ℕ, ◌<◌, ◌==◌, List, [], ◌∷◌, ◌++◌, length, take, slice_index, if◌then◌else◌}
use Rattle.std.specs.List.{AllByRecursion, flat_map}
use Rattle.line_reader.specs.declared.limits.TheConstants.{NEWLINE}

-- a byte is prepended to the first line, or is a line of its own if there is none
abbrev pub onto_first : ℕ → List (List ℕ) → List (List ℕ)
onto_first byte [] = (byte ∷ []) ∷ []
onto_first byte (line ∷ more) = (byte ∷ line) ∷ more

-- the lines of a text: a newline ends an empty line, and any other byte begins the first line of what follows
unfoldable pub lines : List ℕ → List (List ℕ)
lines [] = []
lines (byte ∷ bytes) = if byte == NEWLINE then [] ∷ lines bytes else onto_first byte (lines bytes)

-- what follows the last newline is a line, if it isn't empty
abbrev pub last_line : List ℕ → List (List ℕ)
last_line [] = []
last_line (byte ∷ bytes) = (byte ∷ bytes) ∷ []

-- these bytes have no newline
abbrev pub IsUnbroken : List ℕ → Type 0
IsUnbroken bytes = AllByRecursion (λ byte. byte ≢ NEWLINE) bytes

-- the first newline of these bytes is at this offset
pub record IsFirstNewline (bytes : List ℕ) (place : ℕ) : Type 0 where
  pub within : place < length bytes
  pub unbroken : IsUnbroken (take place bytes)
  pub ends : slice_index bytes place ≡ NEWLINE

-- a line, and the newline that ends it
abbrev pub ended : List ℕ → List ℕ
ended line = line ++ NEWLINE ∷ []

-- a text is these whole lines, each with its newline, and then the unread bytes
pub record BeginsWithLines (text : List ℕ) (whole : List (List ℕ)) (ahead : List ℕ) : Type 0 where
  pub joined : text ≡ flat_map ended whole ++ ahead
  pub each : AllByRecursion IsUnbroken whole

-- a text is these whole lines, each with its newline, and then this remainder without a newline
pub record IsLinesAndRest (text : List ℕ) (whole : List (List ℕ)) (rest : List ℕ) : Type 0 where
  pub begins : BeginsWithLines text whole rest
  pub unbroken : IsUnbroken rest
