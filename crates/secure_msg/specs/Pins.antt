-- A PIN, and its block of format 2: ISO 9564-1.
use Rattle.std.specs.Prelude.{ℕ, ◌-◌, ◌/◌, ◌%◌, ◌==◌, Bool, ◌&&◌, nat_le, if◌then◌else◌, List, ◌∷◌, ◌++◌, length, replicate, slice_index, Option, Some, None}
use Rattle.std.specs.List.{list_all}
use Rattle.key_derive.specs.Digits.{packed}
use Rattle.secure_msg.specs.declared.pin.TheConstants.{MIN_PIN_DIGITS, MAX_PIN_DIGITS}

-- a PIN has 4 to 12 decimal digits
unfoldable pub is_pin : List ℕ → Bool
is_pin digits =
    nat_le MIN_PIN_DIGITS (length digits) && nat_le (length digits) MAX_PIN_DIGITS
    && list_all (λ digit. nat_le digit 9) digits

-- these digits, if they are a PIN, or none
unfoldable pub pin_from : List ℕ → Option (List ℕ)
pin_from digits = if is_pin digits then Some digits else None

-- the nibbles of a PIN block: 2, the number of digits, the digits, and F up to sixteen nibbles
abbrev pub pin_nibbles : List ℕ → List ℕ
pin_nibbles pin = 2 ∷ length pin ∷ pin ++ replicate (14 - length pin) 0xF

-- the PIN block, two nibbles in a byte
unfoldable pub pin_block : List ℕ → List ℕ
pin_block pin = packed (pin_nibbles pin)

-- the nibble at an index of some bytes, of which that at 0 is the high one of the first byte
abbrev pub nibble_at : List ℕ → ℕ → ℕ
nibble_at bytes index = if index % 2 == 0 then slice_index bytes (index / 2) / 16
    else slice_index bytes (index / 2) % 16
