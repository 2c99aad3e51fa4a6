-- The tables of hexadecimal digits hold what their definition computes.
use Rattle.std.proofs.Common.{◌≡◌, ℕ, ◌+◌, ◌*◌, ◌<◌, ◌≤◌, Bool, true, Option, Some, None, is_some, map, get_or, sym, refl, ap, ◌∙◌, arith}
use Rattle.std.specs.Prelude.{nat_lt}
use Rattle.std.specs.List.{range_with_len}
use Rattle.std.proofs.lemmas.Bool.{ltb-true, lt-ltb, le-ltb}
use Rattle.std.proofs.lemmas.List.FromFn.{get_or-map-range_with_len}
use Rattle.hex.specs.Hex.{hex_digit_value}
use Rattle.chip_request.specs.declared.hex_digits.TheConstants.{HIGH_DIGITS, LOW_DIGITS}
use Rattle.chip_request.specs.HexDigits.{value_below, pair_of}

-- what stands in the tables for a digit's value
abbrev pub high_of : Option ℕ → ℕ
high_of None = 256
high_of (Some value) = 16 * value

abbrev pub low_of : Option ℕ → ℕ
low_of None = 256
low_of (Some value) = value

-- a digit's value is below 16
abbrev pub is_small : Option ℕ → Bool
is_small None = true
is_small (Some value) = nat_lt value 16

every_high : HIGH_DIGITS ≡ map (λ byte. high_of (hex_digit_value byte)) (range_with_len 0 256)
every_high = refl

every_low : LOW_DIGITS ≡ map (λ byte. low_of (hex_digit_value byte)) (range_with_len 0 256)
every_low = refl

every_value : map (λ byte. is_small (hex_digit_value byte)) (range_with_len 0 256) ≡ map (λ _. true) (range_with_len 0 256)
every_value = refl

high_at : (byte d : ℕ) → byte < 256 → get_or HIGH_DIGITS byte d ≡ high_of (hex_digit_value byte)
high_at byte d below =
    ap (λ xs. get_or xs byte d) every_high
    ∙ get_or-map-range_with_len (λ byte. high_of (hex_digit_value byte)) 0 256 byte byte d below (omega arith)

low_at : (byte d : ℕ) → byte < 256 → get_or LOW_DIGITS byte d ≡ low_of (hex_digit_value byte)
low_at byte d below =
    ap (λ xs. get_or xs byte d) every_low
    ∙ get_or-map-range_with_len (λ byte. low_of (hex_digit_value byte)) 0 256 byte byte d below (omega arith)

pub small_at : (byte : ℕ) → byte < 256 → is_small (hex_digit_value byte) ≡ true
small_at byte below =
    sym (get_or-map-range_with_len (λ byte. is_small (hex_digit_value byte)) 0 256 byte byte true below (omega arith))
    ∙ ap (λ xs. get_or xs byte true) every_value ∙ get_or-map-range_with_len (λ _. true) 0 256 byte byte true below (omega arith)

pub none_of : (value : ℕ) → 256 ≤ value → value_below 256 value ≡ None
none_of value large = rw (le-ltb value 256 large) refl

pub some_of : (value : ℕ) → value < 256 → value_below 256 value ≡ Some value
some_of value below = rw (lt-ltb value 256 below) refl

sum_of : (high low : Option ℕ) → is_small high ≡ true → is_small low ≡ true → value_below 256 (high_of high + low_of low) ≡ pair_of high low
sum_of None low _ _ = none_of (256 + low_of low) (omega arith)
sum_of (Some high) None _ _ = none_of (16 * high + 256) (omega arith)
sum_of (Some high) (Some low) h l =
    let high_small : high < 16 = ltb-true high 16 h in
    let low_small : low < 16 = ltb-true low 16 l in
    some_of (16 * high + low) (omega arith)

within_of : (high low : Option ℕ) → is_small high ≡ true → is_small low ≡ true → high_of high + low_of low ≤ 512
within_of None None _ _ = omega arith
within_of None (Some low) _ l = let small : low < 16 = ltb-true low 16 l in omega arith
within_of (Some high) None h _ = let small : high < 16 = ltb-true high 16 h in omega arith
within_of (Some high) (Some low) h l =
    let high_small : high < 16 = ltb-true high 16 h in
    let low_small : low < 16 = ltb-true low 16 l in
    omega arith

-- what stands for two digits adds up to the byte that they spell, or to more
pub pair_at_bytes : (high low d e : ℕ) → high < 256 → low < 256
    → value_below 256 (get_or HIGH_DIGITS high d + get_or LOW_DIGITS low e) ≡ pair_of (hex_digit_value high) (hex_digit_value low)
pair_at_bytes high low d e h l =
    rw (high_at high d h, low_at low e l) (sum_of (hex_digit_value high) (hex_digit_value low) (small_at high h) (small_at low l))

pub pair_fits : (high low d e : ℕ) → high < 256 → low < 256 → get_or HIGH_DIGITS high d + get_or LOW_DIGITS low e ≤ 512
pair_fits high low d e h l =
    rw (high_at high d h, low_at low e l) (within_of (hex_digit_value high) (hex_digit_value low) (small_at high h) (small_at low l))

digit_of : (value : Option ℕ) → is_small value ≡ true → nat_lt (low_of value) 256 ≡ is_some value
digit_of None _ = refl
digit_of (Some value) small = let below : value < 16 = ltb-true value 16 small in lt-ltb value 256 (omega arith)

-- what stands for a digit is below 256
pub digit_at_byte : (byte d : ℕ) → byte < 256 → nat_lt (get_or LOW_DIGITS byte d) 256 ≡ is_some (hex_digit_value byte)
digit_at_byte byte d below = rw (low_at byte d below) (digit_of (hex_digit_value byte) (small_at byte below))
