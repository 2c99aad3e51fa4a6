-- What the words of the command to change a PIN are parsed as.
use Rattle.std.specs.Prelude.{ℕ, ◌+◌, ◌*◌, ◌&&◌, nat_le, if◌then◌else◌, List, [], ◌∷◌, length, map, codes, Option, Some}
use Rattle.std.specs.Prelude.{None}
use Rattle.std.specs.Char.{digit_value, is_ascii_digit}
use Rattle.std.specs.List.{list_all}
use Rattle.std.specs.Option.{option_and_then}
use Rattle.std.specs.Result.{result_ok}
use Rattle.hex.specs.Hex.{decode_sized}
use Rattle.issuer_base.specs.CardNumber.{pan_from}
use Rattle.issuer_base.specs.declared.limits.TheConstants.{MAX_PAN_DIGITS}
use Rattle.secure_msg.specs.Pins.{pin_from}
use Rattle.secure_msg.specs.declared.pin.TheConstants.{MAX_PIN_DIGITS}
use Rattle.command_line.specs.Command.{PinOrder}
use Rattle.command_line.specs.Pairs.{value_in}

-- the second step, if the first gave a value
infixl 10 ◌>>=◌
abbrev pub ◌>>=◌ : {A B : Type 0} → Option A → (A → Option B) → Option B
None >>= next = None
Some value >>= next = next value

-- the values of the decimal digits of a word, if it has nothing else and at most so many
abbrev pub digits_in : ℕ → List ℕ → Option (List ℕ)
digits_in most word =
    if nat_le (length word) most && list_all is_ascii_digit word then Some (map digit_value word) else None

-- an account number and a PIN in decimal digits
abbrev pub pan_in : List ℕ → Option (List ℕ)
pan_in word = option_and_then pan_from (digits_in MAX_PAN_DIGITS word)

abbrev pub pin_in : List ℕ → Option (List ℕ)
pin_in word = option_and_then pin_from (digits_in MAX_PIN_DIGITS word)

-- a sequence number: two decimal digits, a nibble each
unfoldable pub psn_in : List ℕ → Option ℕ
psn_in (tens ∷ ones ∷ []) =
    if is_ascii_digit tens && is_ascii_digit ones then Some (16 * digit_value tens + digit_value ones) else None
psn_in _ = None

-- just so many bytes, each of two hexadecimal digits of either case
abbrev pub bytes_in : ℕ → List ℕ → Option (List ℕ)
bytes_in count word = result_ok (decode_sized word count)

-- the byte of a list of one
abbrev pub only_byte : List ℕ → Option ℕ
only_byte (byte ∷ []) = Some byte
only_byte _ = None

-- one byte of two hexadecimal digits
abbrev pub byte_in : List ℕ → Option ℕ
byte_in word = option_and_then only_byte (bytes_in 1 word)

-- the order in the words after the first one, if each option has one value, of its form
unfoldable pub order_in : List (List ℕ) → Option PinOrder
order_in words = do
  config ← value_in words (codes "--config")
  pan ← option_and_then pan_in (value_in words (codes "--pan"))
  psn ← option_and_then psn_in (value_in words (codes "--psn"))
  dki ← option_and_then byte_in (value_in words (codes "--dki"))
  salt ← option_and_then (bytes_in 8) (value_in words (codes "--salt"))
  pin ← option_and_then pin_in (value_in words (codes "--pin"))
  Some (record { config = config; pan = pan; psn = psn; dki = dki; salt = salt; pin = pin })
