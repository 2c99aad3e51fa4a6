-- What the texts and numbers of a configuration are parsed as.
use Rattle.std.specs.Prelude.{ℕ, ◌+◌, ◌-◌, ◌*◌, ◌%◌, ◌^◌, ◌&&◌, ◌==◌, nat_le, if◌then◌else◌, List, [], ◌∷◌, map, codes, Option, Some, None}
use Rattle.std.specs.Char.{digit_value, is_ascii_digit}
use Rattle.std.specs.List.{list_all}
use Rattle.std.specs.Result.{result_ok}
use Rattle.std.specs.Str.{bytes_eq}
use Rattle.hex.specs.Hex.{decode_sized}
use Rattle.issuer_base.specs.CardNumber.{pan_from}
use Rattle.issuer_base.specs.declared.answer.MasterOption.{MasterOption}
use Rattle.issuer_base.specs.declared.answer.MasterOption.TheVariants.{A, B}
use Rattle.issuer_base.specs.declared.answer.Method.{Method}
use Rattle.issuer_base.specs.declared.answer.Method.TheVariants.{One, Two}

-- this many bytes: two hexadecimal digits each, of either case
abbrev pub bytes_of : ℕ → List ℕ → Option (List ℕ)
bytes_of count text = result_ok (decode_sized text count)

-- a character minus the digit 0, modulo 256
unfoldable pub past_zero : ℕ → ℕ
past_zero character = (character + (2 ^ 8 - 48)) % 2 ^ 8

-- an account number: 8 to 19 digits
unfoldable pub pan_of : List ℕ → Option (List ℕ)
pan_of text = if list_all is_ascii_digit text then pan_from (map digit_value text) else None

-- a sequence number: two digits, a nibble each
unfoldable pub psn_of : List ℕ → Option ℕ
psn_of (tens ∷ units ∷ []) = if is_ascii_digit tens && is_ascii_digit units
    then Some (digit_value tens * 16 + digit_value units) else None
psn_of _ = None

-- the option by which a card's master key is derived, `A` or `B`: EMV 4.3 Book 2, Annex A1.4
unfoldable pub option_of : List ℕ → Option MasterOption
option_of text =
    if bytes_eq text (codes "A") then Some A
    else if bytes_eq text (codes "B") then Some B
    else None

-- the method by which the ARPC is computed, 1 or 2: EMV 4.3 Book 2, section 8.2
unfoldable pub method_of : ℕ → Option Method
method_of number =
    if number == 1 then Some One
    else if number == 2 then Some Two
    else None

-- the number, if it is at most the greatest
abbrev pub at_most : ℕ → ℕ → Option ℕ
at_most most number = if nat_le number most then Some number else None
