-- A line parsed part by part from its start: each part's value and the remainder, or the text from the first byte that
-- is wrong.
use Rattle.std.specs.Prelude.{ℕ, zero, suc, ◌+◌, ◌-◌, ◌*◌, List, [], ◌∷◌, length, Option, Some, None, Result, Ok, Err, ◌==◌, if◌then◌else◌}
use Rattle.std.specs.Char.{digit_value, is_ascii_digit}
use Rattle.hex.specs.Hex.{hex_digit_value}
use Rattle.issuer_base.specs.CardNumber.{pan_from}
use Rattle.issuer_base.specs.declared.limits.TheConstants.{MAX_PAN_DIGITS, MAX_CHIP_BYTES}
use Rattle.chip_request.specs.declared.line.TheConstants.{MAX_QUEUE_BYTES}
use Rattle.chip_request.specs.declared.line.LineKind.{LineKind}
use Rattle.chip_request.specs.declared.line.LineKind.TheVariants.{Ask, Queue, Set}

-- what is read, or the text from the first byte that is wrong
abbrev pub Part : Type 0 → Type 0
Part A = Result A (List ℕ)

-- the next part, read after this one, if this one is read
infixl 10 ◌>>=◌
abbrev pub ◌>>=◌ : {A B : Type 0} → Part A → (A → Part B) → Part B
(Ok a) >>= f = f a
(Err rest) >>= f = Err rest

-- this byte at the start: the text after it
unfoldable pub byte_at : ℕ → List ℕ → Part (List ℕ)
byte_at byte [] = Err []
byte_at byte (first ∷ rest) = if first == byte then Ok rest else Err (first ∷ rest)

-- the value of the first byte and the text after it, if it has a value
abbrev pub value_in_front : Option ℕ → ℕ → List ℕ → Part (ℕ × List ℕ)
value_in_front None byte rest = Err (byte ∷ rest)
value_in_front (Some value) byte rest = Ok (value, rest)

-- the value of the first byte and the text after it, if the text has a byte with a value
abbrev pub value_at : (ℕ → Option ℕ) → List ℕ → Part (ℕ × List ℕ)
value_at value [] = Err []
value_at value (byte ∷ rest) = value_in_front (value byte) byte rest

-- the value of a decimal digit
abbrev pub decimal_digit_value : ℕ → Option ℕ
decimal_digit_value byte = if is_ascii_digit byte then Some (digit_value byte) else None

-- a decimal digit at the start: its value, and the text after it
unfoldable pub digit_at : List ℕ → Part (ℕ × List ℕ)
digit_at text = value_at decimal_digit_value text

-- a hexadecimal digit at the start: its value, and the text after it
unfoldable pub hex_digit_at : List ℕ → Part (ℕ × List ℕ)
hex_digit_at text = value_at hex_digit_value text

-- a digit that was read, before the others that are read after it; or no digits, and the text unchanged
abbrev pub and_others : (List ℕ → List ℕ × List ℕ) → Part (ℕ × List ℕ) → List ℕ × List ℕ
and_others others (Err rest) = ([], rest)
and_others others (Ok found) = (found.0 ∷ (others found.1).0, (others found.1).1)

-- the decimal digits at the start, up to a limit, and the text after them
unfoldable pub digits_at : ℕ → List ℕ → List ℕ × List ℕ
digits_at zero text = ([], text)
digits_at (suc room) text = and_others (digits_at room) (digit_at text)

-- the account number that digits were parsed as, and the text after it
abbrev pub number_in_front : Option (List ℕ) → List ℕ → Part (List ℕ × List ℕ)
number_in_front None rest = Err rest
number_in_front (Some pan) rest = Ok (pan, rest)

-- an account number at the start, of all the decimal digits there up to its greatest length, and the text after it
unfoldable pub account_number_at : List ℕ → Part (List ℕ × List ℕ)
account_number_at text =
    let found = digits_at MAX_PAN_DIGITS text in number_in_front (pan_from found.0) found.1

-- a card's account number and sequence number, and the text after them
pub record CardPart : Type 0 where
  pub pan : List ℕ
  pub psn : ℕ
  pub rest : List ℕ

-- a card at the start: its account number and its sequence number of two decimal digits, each between spaces
unfoldable pub card_at : List ℕ → Part CardPart
card_at text = do
  start ← byte_at 32 text
  number ← account_number_at start
  behind ← byte_at 32 number.1
  high ← digit_at behind
  low ← digit_at high.1
  rest ← byte_at 32 low.1
  Ok (record { pan = number.0; psn = 16 * high.0 + low.0; rest = rest })

-- a value at the end of the text
abbrev pub at_end : {A : Type 0} → A → List ℕ → Part A
at_end value [] = Ok value
at_end value (byte ∷ rest) = Err (byte ∷ rest)

-- a decimal digit at the end of a text
unfoldable pub last_digit_at : List ℕ → Part ℕ
last_digit_at text = do
  digit ← digit_at text
  at_end digit.0 digit.1

-- the byte that two hexadecimal digits at the start spell, the high one first, and the text after them
unfoldable pub pair_at : List ℕ → Part (ℕ × List ℕ)
pair_at text = do
  high ← hex_digit_at text
  low ← hex_digit_at high.1
  Ok (16 * high.0 + low.0, low.1)

-- the bytes that pairs of hexadecimal digits spell, one or more up to a limit, to the end of the text
unfoldable pub data_at : ℕ → List ℕ → Part (List ℕ)
data_at zero text = Err text
data_at (suc room) text = do
  pair ← pair_at text
  elim (pair.1) [
    | [] ↦ Ok (pair.0 ∷ [])
    | byte ∷ rest ↦ data_at room (byte ∷ rest) >>= λ bytes. Ok (pair.0 ∷ bytes)
  ]

-- after `A`: a space and chip data
abbrev pub ask_at : List ℕ → Part LineKind
ask_at text = do
  digits ← byte_at 32 text
  bytes ← data_at MAX_CHIP_BYTES digits
  Ok (Ask (record { items = bytes }))

-- after `Q`: a card and the bytes of a command for its queue
abbrev pub queue_at : List ℕ → Part LineKind
queue_at text = do
  card ← card_at text
  bytes ← data_at MAX_QUEUE_BYTES card.rest
  Ok (Queue card.pan card.psn (record { items = bytes }))

-- after `S`: a card and a digit, its status
abbrev pub set_at : List ℕ → Part LineKind
set_at text = do
  card ← card_at text
  status ← last_digit_at card.rest
  Ok (Set card.pan card.psn status)

-- what a line says by its first letter: 65 is `A`, 81 is `Q` and 83 is `S`
unfoldable pub kind_at : List ℕ → Part LineKind
kind_at [] = Err []
kind_at (letter ∷ text) =
    if letter == 65 then ask_at text
    else if letter == 81 then queue_at text
    else if letter == 83 then set_at text
    else Err (letter ∷ text)

-- what a line of this length says, or the column, counted from 1, at which the remainder of the line begins
abbrev pub with_column : ℕ → Part LineKind → Result LineKind ℕ
with_column size (Ok kind) = Ok kind
with_column size (Err rest) = Err (size - length rest + 1)

-- what a line says, or the column of its first error
unfoldable pub line_of : List ℕ → Result LineKind ℕ
line_of line = with_column (length line) (kind_at line)
