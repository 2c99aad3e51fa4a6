-- The values of digits as tables hold them, and bytes that digits spell.
use Rattle.std.specs.Prelude.{◌≡◌, ◌<◌, ◌≤◌, ℕ, ◌+◌, ◌*◌, List, length, slice_index, Option, Some, None, nat_lt, if◌then◌else◌}
use Rattle.hex.specs.Hex.{hex_digit_value}

-- a value below the base is a digit's; any other value means that there is no digit
abbrev pub value_below : ℕ → ℕ → Option ℕ
value_below base value = if nat_lt value base then Some value else None

-- the byte that two digits spell, the high one first, if both are digits
abbrev pub pair_of : Option ℕ → Option ℕ → Option ℕ
pair_of None low = None
pair_of (Some high) None = None
pair_of (Some high) (Some low) = Some (16 * high + low)

-- each of the first bytes, so many, is the one that its two digits in the text spell
abbrev pub AreSpelled : ℕ → List ℕ → List ℕ → Type 0
AreSpelled count bytes text =
    (place : ℕ) → place < count
    → pair_of (hex_digit_value (slice_index text (2 * place))) (hex_digit_value (slice_index text (2 * place + 1)))
    ≡ Some (slice_index bytes place)

-- each of the first values, so many, is its byte's as a digit, and 16 or more where it is none
abbrev pub HaveValues : ℕ → List ℕ → List ℕ → Type 0
HaveValues count values digits =
    (place : ℕ) → place < count → value_below 16 (slice_index values place) ≡ hex_digit_value (slice_index digits place)

-- no value exceeds the greatest of a digit
abbrev pub AreDigitValues : List ℕ → Type 0
AreDigitValues values = (place : ℕ) → place < length values → slice_index values place ≤ 15

-- none of the first values, so many, exceeds the one at its place among the others
abbrev pub AreWithin : ℕ → List ℕ → List ℕ → Type 0
AreWithin count values others = (place : ℕ) → place < count → slice_index values place ≤ slice_index others place

-- each of the first bytes, so many, is joined from its two values, the high one first
abbrev pub AreJoined : ℕ → List ℕ → List ℕ → Type 0
AreJoined count bytes values =
    (place : ℕ) → place < count → slice_index bytes place ≡ 16 * slice_index values (2 * place) + slice_index values (2 * place + 1)
