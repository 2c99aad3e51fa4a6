-- Digits spell exactly the bytes whose hexadecimal text they are.
use Rattle.std.proofs.Common.{◌≡◌, ℕ, zero, suc, ◌+◌, ◌*◌, ◌/◌, ◌%◌, ◌<◌, ◌==◌, List, [], ◌∷◌, ◌++◌, get_or, slice_index, map, Option, Some}
use Rattle.std.proofs.Common.{None, option_map, refl, sym, ap, ap₂, subst, ◌∙◌, lit<, arith}
use Rattle.std.proofs.lemmas.Bool.{eqb-true}
use Rattle.std.proofs.lemmas.List.FromFn.{get_or-map-range_with_len}
use Rattle.std.proofs.lemmas.List.Quantifiers.{position-Some}
use Rattle.std.proofs.lemmas.Option.{same_Some}
use Rattle.std.specs.List.{concat, range_with_len}
use Rattle.hex.specs.Hex.{IsBytes, encode_lower, encode_with, lower_digits}
use Rattle.journal_rec.specs.Reading.{byte_of, digit_value, spelled}
use Rattle.journal_rec.proofs.Exact.{then_some, map_some}

-- the digit of a value
abbrev pub glyph : ℕ → ℕ
glyph value = slice_index lower_digits value

-- what has a value is its digit
pub digit_value-is : (digit value : ℕ) → digit_value digit ≡ Some value → (value < 16) × (digit ≡ glyph value)
digit_value-is digit value found =
    let at = position-Some (λ other. other == digit) lower_digits value 0 found in
    (at.0, sym (eqb-true (glyph value) digit at.1))

each_digit : map (λ value. digit_value (glyph value)) (range_with_len 0 16) ≡ map (λ value. Some value) (range_with_len 0 16)
each_digit = refl

-- the digit of a value has that value
pub digit_value-glyph : (value : ℕ) → value < 16 → digit_value (glyph value) ≡ Some value
digit_value-glyph value below =
    sym (get_or-map-range_with_len (λ v. digit_value (glyph v)) 0 16 value value None below (omega arith))
    ∙ ap (λ (values : List (Option ℕ)). get_or values value None) each_digit
    ∙ get_or-map-range_with_len (λ v. Some v) 0 16 value value None below (omega arith)

-- two digits that spell a byte are those of its halves
pub byte_of-is : (high low byte : ℕ) → byte_of high low ≡ Some byte → (byte < 256) × (high ≡ glyph (byte / 16)) × (low ≡ glyph (byte % 16))
byte_of-is high low byte found =
    let h = then_some (digit_value high) (λ h. option_map (λ l. h * 16 + l) (digit_value low)) byte found in
    let l = map_some (digit_value low) (λ l. h.0 * 16 + l) byte h.2 in
    let front = digit_value-is high h.0 h.1 in
    let back = digit_value-is low l.0 l.1 in
    let half : h.0 ≡ byte / 16 = omega (arith, front.0, back.0, l.2) in
    let rest : l.0 ≡ byte % 16 = omega (arith, front.0, back.0, l.2) in
    (omega (arith, front.0, back.0, l.2), front.1 ∙ ap glyph half, back.1 ∙ ap glyph rest)

-- the digits of a byte's halves spell it
pub byte_of-glyphs : (byte : ℕ) → byte < 256 → byte_of (glyph (byte / 16)) (glyph (byte % 16)) ≡ Some byte
byte_of-glyphs byte below =
    let high : byte / 16 < 16 = omega arith in
    let low : byte % 16 < 16 = omega arith in
    let whole : byte / 16 * 16 + byte % 16 ≡ byte = omega arith in
    rw (digit_value-glyph (byte / 16) high, digit_value-glyph (byte % 16) low) (ap Some whole)

IsBytes-cons : (byte : ℕ) (bytes : List ℕ) → byte < 256 → IsBytes bytes → IsBytes (byte ∷ bytes)
IsBytes-cons byte bytes first rest zero = first
IsBytes-cons byte bytes first rest (suc i) = rest i

one_more : (high low byte : ℕ) (digits more bytes : List ℕ) → byte < 256 → high ≡ glyph (byte / 16) → low ≡ glyph (byte % 16) → IsBytes more
    → digits ≡ encode_lower more → byte ∷ more ≡ bytes → IsBytes bytes × (high ∷ low ∷ digits ≡ encode_lower bytes)
unfolding encode_with
one_more high low byte digits more bytes below high_is low_is fits rest whole =
    let front : high ∷ low ∷ digits ≡ glyph (byte / 16) ∷ glyph (byte % 16) ∷ digits = ap₂ (λ h l. h ∷ l ∷ digits) high_is low_is in
    let text : high ∷ low ∷ digits ≡ encode_lower (byte ∷ more) = front ∙ ap (λ (d : List ℕ). glyph (byte / 16) ∷ glyph (byte % 16) ∷ d) rest in
    subst (λ (bs : List ℕ). IsBytes bs × (high ∷ low ∷ digits ≡ encode_lower bs)) whole (IsBytes-cons byte more below fits, text)

none_more : (bytes : List ℕ) → [] ≡ bytes → IsBytes bytes × ([] ≡ encode_lower bytes)
unfolding encode_with
none_more bytes whole = subst (λ (bs : List ℕ). IsBytes bs × ([] ≡ encode_lower bs)) whole (λ i. lit< tt, refl)

-- digits that spell bytes are the text of these bytes
pub spelled-takes : (digits bytes : List ℕ) → spelled digits ≡ Some bytes → IsBytes bytes × (digits ≡ encode_lower bytes)
unfolding spelled
spelled-takes [] bytes found = none_more bytes (same_Some _ _ found)
spelled-takes (digit ∷ []) bytes found = absurd cc
spelled-takes (high ∷ low ∷ digits) bytes found =
    let first = then_some (byte_of high low) (λ byte. option_map (λ more. byte ∷ more) (spelled digits)) bytes found in
    let more = map_some (spelled digits) (λ more. first.0 ∷ more) bytes first.2 in
    let halves = byte_of-is high low first.0 first.1 in
    let rest = spelled-takes digits more.0 more.1 in
    one_more high low first.0 digits more.0 bytes halves.0 halves.1 halves.2 rest.0 rest.1 more.2

-- the text of bytes spells them
pub spelled-again : (bytes : List ℕ) → IsBytes bytes → spelled (encode_lower bytes) ≡ Some bytes
unfolding spelled encode_with
spelled-again [] fits = refl
spelled-again (byte ∷ bytes) fits =
    rw (byte_of-glyphs byte (fits 0), spelled-again bytes (λ i. fits (suc i))) refl

-- the text of two lists of bytes
pub encode_lower-append : (bytes more : List ℕ) → encode_lower (bytes ++ more) ≡ encode_lower bytes ++ encode_lower more
unfolding encode_with
encode_lower-append [] more = refl
encode_lower-append (byte ∷ bytes) more = ap (λ (text : List ℕ). glyph (byte / 16) ∷ glyph (byte % 16) ∷ text) (encode_lower-append bytes more)

-- the text of lists of bytes
pub encode_lower-concat : (lists : List (List ℕ)) → encode_lower (concat lists) ≡ concat (map encode_lower lists)
unfolding encode_with
encode_lower-concat [] = refl
encode_lower-concat (bytes ∷ lists) = encode_lower-append bytes (concat lists) ∙ ap (λ (text : List ℕ). encode_lower bytes ++ text) (encode_lower-concat lists)
