-- The three forms of a line, without its newline, and the column of the first error in any other line.
use Rattle.std.specs.Prelude.{◌≡◌, ℕ, ◌+◌, ◌*◌, ◌≤◌, List, [], ◌∷◌, ◌++◌, length, map, take, codes, Some, Result, Ok, Err, IsTrue}
use Rattle.std.specs.List.{join_with_byte}
use Rattle.hex.specs.Hex.{hex_digit_value}
use Rattle.issuer_base.specs.CardNumber.{is_pan}
use Rattle.issuer_base.specs.ChipData.{is_bcd, digits_of}
use Rattle.issuer_base.specs.declared.limits.TheConstants.{MAX_CHIP_BYTES}
use Rattle.chip_request.specs.declared.line.TheConstants.{MAX_QUEUE_BYTES}
use Rattle.chip_request.specs.declared.line.LineKind.{LineKind}
use Rattle.chip_request.specs.declared.line.LineKind.TheVariants.{Ask, Queue, Set}

-- two hexadecimal digits of either case spell a byte, the high one first
pub record SpellsByte (high low byte : ℕ) : Type 0 where
  pub high_value : ℕ
  pub low_value : ℕ
  pub is_high : hex_digit_value high ≡ Some high_value
  pub is_low : hex_digit_value low ≡ Some low_value
  pub joined : byte ≡ 16 * high_value + low_value

-- a text spells bytes, each by two digits
abbrev pub Spells : List ℕ → List ℕ → Type 0
Spells [] [] = Unit {0}
Spells [] (byte ∷ bytes) = ⊥
Spells (digit ∷ []) bytes = ⊥
Spells (high ∷ low ∷ text) [] = ⊥
Spells (high ∷ low ∷ text) (byte ∷ bytes) = SpellsByte high low byte × Spells text bytes

-- a text spells one byte or more, up to a limit
pub record SpellsData (limit : ℕ) (text bytes : List ℕ) : Type 0 where
  pub spelled : Spells text bytes
  pub some : 1 ≤ length bytes
  pub within : length bytes ≤ limit

-- words separated by one space
abbrev pub spaced : List (List ℕ) → List ℕ
spaced words = join_with_byte 32 words

-- the text of decimal digits
abbrev pub digits_text : List ℕ → List ℕ
digits_text digits = map (λ digit. 48 + digit) digits

-- an account number, and a sequence number of two decimal digits: EMV 4.3 Book 3, Annex A, tags 5A and 5F34
pub record IsCard (pan : List ℕ) (psn : ℕ) : Type 0 where
  pub number : IsTrue (is_pan pan)
  pub sequence : IsTrue (is_bcd psn)

-- What a line says. `A` and chip data ask for the check of a request. `Q`, a card's two numbers and bytes give a
-- command for the card's queue. `S`, a card's two numbers and a digit set the card's status.
abbrev pub Says : List ℕ → LineKind → Type 0
Says line (Ask bytes) =
    (text : List ℕ) × (line ≡ spaced (codes "A" ∷ text ∷ [])) × SpellsData MAX_CHIP_BYTES text bytes.items
Says line (Queue pan psn bytes) =
    (text : List ℕ) × (line ≡ spaced (codes "Q" ∷ digits_text pan ∷ digits_text (digits_of psn) ∷ text ∷ []))
    × IsCard pan psn
    × SpellsData MAX_QUEUE_BYTES text bytes.items
Says line (Set pan psn status) =
    (line ≡ spaced (codes "S" ∷ digits_text pan ∷ digits_text (digits_of psn) ∷ digits_text (status ∷ []) ∷ []))
    × IsCard pan psn
    × (status ≤ 9)

-- the text is a prefix of some line of these forms
pub record BeginsSomeLine (front : List ℕ) : Type 0 where
  pub rest : List ℕ
  pub kind : LineKind
  pub says : Says (front ++ rest) kind

-- the longest prefix of the line that begins some line of these forms has this length
pub record IsLongestStart (line : List ℕ) (size : ℕ) : Type 0 where
  pub within : size ≤ length line
  pub begins : BeginsSomeLine (take size line)
  pub longest : (n : ℕ) → n ≤ length line → BeginsSomeLine (take n line) → n ≤ size

-- a line of no form has the column after its longest prefix that begins some line of these forms, counted from 1
pub record StopsAt (line : List ℕ) (column : ℕ) : Type 0 where
  pub size : ℕ
  pub longest : IsLongestStart line size
  pub behind : column ≡ size + 1
  pub says_nothing : (kind : LineKind) → ¬ Says line kind

-- a line is parsed as what it says, or refused with a column
abbrev pub ReadsAs : List ℕ → Result LineKind ℕ → Type 0
ReadsAs line (Ok kind) = Says line kind
ReadsAs line (Err column) = StopsAt line column
