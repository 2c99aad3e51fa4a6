-- Two digits decoded together by sums.
use Rattle.std.proofs.Common.{◌≡◌, ℕ, ◌+◌, ◌*◌, ◌/◌, ◌%◌, ◌<◌, ◌==◌, get_or, map, Bool, true, false, cond, Option, Some, None, refl, sym, ap, ap₂, ◌∙◌, arith, bit_and, lit<}
use Rattle.std.proofs.lemmas.Bool.{eqb-true, eqb-false}
use Rattle.std.proofs.lemmas.Nat.{and_block, and_mask}
use Rattle.std.proofs.lemmas.List.FromFn.{get_or-map-range_with_len}
use Rattle.std.specs.List.{range_with_len}
use Rattle.journal_rec.specs.Reading.{byte_of}
use Rattle.journal_rec.proofs.HexText.{glyph, byte_of-is, byte_of-glyphs}

-- the value of a digit by its code's bits, below 16 at each byte
abbrev pub bits_of : ℕ → ℕ
bits_of digit = (digit % 16 + 9 * (digit / 64 % 2)) % 16

-- the low bits of both halves
nibbles : (n : ℕ) → n < 65536 → bit_and n 0x0f0f ≡ n % 16 + 256 * (n / 256 % 16)
nibbles n below =
    let whole : n ≡ n / 256 * 256 + n % 256 = omega arith in
    let apart : bit_and n 0x0f0f ≡ bit_and (n / 256) 15 * 256 + bit_and (n % 256) 15 =
    ap (λ m. bit_and m 0x0f0f) whole ∙ and_block 8 (n / 256) 15 (n % 256) 15 (omega arith) (lit< tt) in
    omega (arith, apart, and_mask (n / 256) 4, and_mask (n % 256) 4)

low_bits : (n : ℕ) → n < 65536 → bit_and n 0x0101 ≡ n % 2 + 256 * (n / 256 % 2)
low_bits n below =
    let whole : n ≡ n / 256 * 256 + n % 256 = omega arith in
    let apart : bit_and n 0x0101 ≡ bit_and (n / 256) 1 * 256 + bit_and (n % 256) 1 =
    ap (λ m. bit_and m 0x0101) whole ∙ and_block 8 (n / 256) 1 (n % 256) 1 (omega arith) (lit< tt) in
    omega (arith, apart, and_mask (n / 256) 1, and_mask (n % 256) 1)

-- the values of both digits, the first one in the lower byte
abbrev pub both_bits : ℕ → ℕ
both_bits digits = bit_and (bit_and digits 0x0f0f + 9 * bit_and (digits / 64) 0x0101) 0x0f0f

-- they are computed apart
pub both_bits-halves : (high low digits : ℕ) → high < 256 → low < 256 → digits ≡ high + 256 * low → both_bits digits ≡ bits_of high + 256 * bits_of low
both_bits-halves high low digits fits fits_low whole =
    let fits_both : digits < 65536 = omega arith in
    let first : bit_and digits 0x0f0f ≡ high % 16 + 256 * (low % 16) = omega (arith, nibbles digits fits_both) in
    let letters : bit_and (digits / 64) 0x0101 ≡ high / 64 % 2 + 256 * (low / 64 % 2) = omega (arith, low_bits (digits / 64) (omega arith)) in
    let sums : ℕ = bit_and digits 0x0f0f + 9 * bit_and (digits / 64) 0x0101 in
    let apart : sums ≡ (high % 16 + 9 * (high / 64 % 2)) + 256 * (low % 16 + 9 * (low / 64 % 2)) = omega arith in
    let is_high : sums % 16 ≡ bits_of high = omega arith in
    let is_low : sums / 256 % 16 ≡ bits_of low = omega arith in
    omega (arith, nibbles sums (omega arith))

-- and each is the half of a number
pub both_bits-apart : (high low digits : ℕ) → high < 256 → low < 256 → digits ≡ high + 256 * low
    → (both_bits digits % 256 ≡ bits_of high) × (both_bits digits / 256 ≡ bits_of low)
both_bits-apart high low digits fits fits_low whole =
    let apart = both_bits-halves high low digits fits fits_low whole in
    (omega arith, omega arith)

-- functions with the same table have the same value
same_at : (f g : ℕ → ℕ) (value : ℕ) → map f (range_with_len 0 16) ≡ map g (range_with_len 0 16) → value < 16 → f value ≡ g value
same_at f g value same below =
    sym (get_or-map-range_with_len f 0 16 value value 0 (omega arith) (omega arith))
    ∙ ap (λ table. get_or table value 0) same
    ∙ get_or-map-range_with_len g 0 16 value value 0 (omega arith) (omega arith)

-- a digit's bits are its value
pub bits_of-glyph : (value : ℕ) → value < 16 → bits_of (glyph value) ≡ value
bits_of-glyph value below = same_at (λ v. bits_of (glyph v)) (λ v. v) value refl below

-- a digit is a sum
pub glyph-sum : (value : ℕ) → value < 16 → value + 48 + 39 * ((value + 6) / 16) ≡ glyph value
glyph-sum value below = same_at (λ v. v + 48 + 39 * ((v + 6) / 16)) glyph value refl below

-- digits fit a byte
pub glyph-below : (value : ℕ) → value < 16 → glyph value < 256
glyph-below value below = omega (arith, glyph-sum value below)

-- the digits of two values by one sum
pub both_glyphs : (values : ℕ) → values % 256 < 16 → values / 256 < 16
    → values + 0x3030 + 39 * bit_and ((values + 0x0606) / 16) 0x0101 ≡ glyph (values % 256) + 256 * glyph (values / 256)
both_glyphs values high low =
    let first : (values + 0x0606) / 16 % 2 ≡ (values % 256 + 6) / 16 = omega arith in
    let second : (values + 0x0606) / 16 / 256 % 2 ≡ (values / 256 + 6) / 16 = omega arith in
    omega (arith, low_bits ((values + 0x0606) / 16) (omega arith), first, second, glyph-sum (values % 256) high, glyph-sum (values / 256) low)

-- the digits of both values are the two digits if these spell a byte
spelled_both : (high low byte : ℕ) → byte_of high low ≡ Some byte → glyph (bits_of high) + 256 * glyph (bits_of low) ≡ high + 256 * low
spelled_both high low byte found =
    let halves = byte_of-is high low byte found in
    let front : glyph (bits_of high) ≡ high =
    ap (λ h. glyph (bits_of h)) halves.1 ∙ ap glyph (bits_of-glyph (byte / 16) (omega (arith, halves.0))) ∙ sym halves.1 in
    let back : glyph (bits_of low) ≡ low =
    ap (λ l. glyph (bits_of l)) halves.2 ∙ ap glyph (bits_of-glyph (byte % 16) (omega arith)) ∙ sym halves.2 in
    ap₂ (λ h l. h + 256 * l) front back

-- and the byte is that of both values if they are
both_spell : (high low : ℕ) → high < 256 → low < 256 → glyph (bits_of high) + 256 * glyph (bits_of low) ≡ high + 256 * low
    → Some (16 * bits_of high + bits_of low) ≡ byte_of high low
both_spell high low fits fits_low same =
    let first : bits_of high < 16 = omega arith in
    let second : bits_of low < 16 = omega arith in
    let byte : ℕ = 16 * bits_of high + bits_of low in
    let is_high : byte / 16 ≡ bits_of high = omega arith in
    let is_low : byte % 16 ≡ bits_of low = omega arith in
    let front : glyph (byte / 16) ≡ high = ap glyph is_high ∙ omega (arith, same, glyph-below (bits_of high) first, glyph-below (bits_of low) second) in
    let back : glyph (byte % 16) ≡ low = ap glyph is_low ∙ omega (arith, same, glyph-below (bits_of high) first, glyph-below (bits_of low) second) in
    sym (byte_of-glyphs byte (omega arith)) ∙ ap₂ byte_of front back

-- the byte of two digits, if they are the digits of both values
pub byte_of-sums : (high low digits again byte : ℕ) → high < 256 → low < 256 → digits ≡ high + 256 * low
    → again ≡ glyph (bits_of high) + 256 * glyph (bits_of low) → byte ≡ 16 * bits_of high + bits_of low
    → cond (again == digits) (Some byte) None ≡ byte_of high low
byte_of-sums high low digits again byte fits fits_low is_digits is_again is_byte = either (again == digits) refl
  where
    none_either : (found : Option ℕ) → byte_of high low ≡ found → (again == digits) ≡ false → None ≡ found
    none_either None read other = refl
    none_either (Some whole) read other =
        absurd (eqb-false again digits other (is_again ∙ spelled_both high low whole read ∙ sym is_digits))

    either : (same : Bool) → (again == digits) ≡ same → cond same (Some byte) None ≡ byte_of high low
    either true is = ap Some is_byte ∙ both_spell high low fits fits_low (sym is_again ∙ eqb-true again digits is ∙ is_digits)
    either false is = none_either (byte_of high low) refl is
