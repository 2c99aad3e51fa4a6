-- The text of an account number: a digit for each of its digits, and `f` after them.
use Rattle.std.proofs.Common.{◌≡◌, ℕ, zero, suc, ◌+◌, ◌-◌, ◌*◌, ◌/◌, ◌%◌, ◌<◌, ◌≤◌, ◌==◌, Bool, true, false, cond, leb, le-leb, List, []}
use Rattle.std.proofs.Common.{◌∷◌, ◌++◌, length, get_or, drop, map, replicate, Some, None, IsTrue, refl, sym, ap, ap₂, subst, ◌∙◌, inl, inr}
use Rattle.std.proofs.Common.{lit<, arith, length-append}
use Rattle.std.proofs.lemmas.Bool.{and_from, and_parts, cases_lt, eqb-true, leb-true}
use Rattle.std.proofs.lemmas.List.{drop_at, get_or_past, length-replicate, length-map, map-append}
use Rattle.std.proofs.lemmas.List.FromFn.{get_or-map-range_with_len}
use Rattle.std.proofs.lemmas.List.Sums.{take_while-cons}
use Rattle.std.specs.Char.{is_ascii_digit}
use Rattle.std.specs.List.{list_all, range_with_len, take_while}
use Rattle.hex.specs.Hex.{IsBytes, encode_lower, encode_with, lower_digits}
use Rattle.hex.proofs.HexLemmas.{length-encode_with}
use Rattle.issuer_base.specs.CardNumber.{is_pan, pan_from}
use Rattle.issuer_base.proofs.CardNumberLemmas.{length-pan, pan_from-some, pan_from-valid}
use Rattle.journal_rec.specs.declared.limits.TheConstants.{PAN_DIGITS}
use Rattle.journal_rec.specs.RecordText.{packed, pan_bytes}
use Rattle.journal_rec.specs.Reading.{pan_of}
use Rattle.journal_rec.proofs.HexText.{glyph}
use Rattle.journal_rec.proofs.PanLemmas.{nibbles-below}

-- all digits are decimal
abbrev pub are_decimal : List ℕ → Bool
are_decimal digits = list_all (λ digit. leb digit 9) digits

decimal_glyphs : map glyph (range_with_len 0 10) ≡ map (λ digit. 48 + digit) (range_with_len 0 10)
decimal_glyphs = refl

glyph-decimal : (digit : ℕ) → leb digit 9 ≡ true → glyph digit ≡ 48 + digit
glyph-decimal digit small =
    let below : digit < 10 = omega (arith, leb-true digit 9 small) in
    sym (get_or-map-range_with_len glyph 0 10 digit digit 0 below (omega arith))
    ∙ ap (λ (glyphs : List ℕ). get_or glyphs digit 0) decimal_glyphs
    ∙ get_or-map-range_with_len (λ digit. 48 + digit) 0 10 digit digit 0 below (omega arith)

-- ---- from the digits to the text

-- the text of packed nibbles is a digit for each of them
pub encode_lower-packed : (nibbles : List ℕ) → ((i : ℕ) → get_or nibbles i 0 < 16) → length nibbles % 2 ≡ 0 → encode_lower (packed nibbles) ≡ map glyph nibbles
unfolding packed encode_with
encode_lower-packed [] small even = refl
encode_lower-packed (nibble ∷ []) small even = absurd (omega arith)
encode_lower-packed (high ∷ low ∷ nibbles) small even =
    let below : low < 16 = small 1 in
    let first : (16 * high + low) / 16 ≡ high = omega arith in
    let second : (16 * high + low) % 16 ≡ low = omega arith in
    ap₂ (λ h l. glyph h ∷ glyph l ∷ encode_lower (packed nibbles)) first second
    ∙ ap (λ (text : List ℕ). glyph high ∷ glyph low ∷ text) (encode_lower-packed nibbles (λ i. small (suc (suc i))) (omega arith))

-- ---- from the text to the digits

-- a digit that is read writes itself
digit_back : (digit : ℕ) → is_ascii_digit digit ≡ true → glyph (digit - 48) ≡ digit
digit_back digit test =
    let range = and_parts _ _ test in
    let low : 48 ≤ digit = leb-true 48 digit range.0 in
    let high : digit ≤ 57 = leb-true digit 57 range.1 in
    glyph-decimal (digit - 48) (le-leb _ _ (omega arith)) ∙ omega arith

digits_either : (digit : ℕ) (text : List ℕ) (test : Bool) → is_ascii_digit digit ≡ test
    → map glyph (map (λ d. d - 48) (take_while is_ascii_digit text)) ≡ take_while is_ascii_digit text
    → map glyph (map (λ d. d - 48) (cond test (digit ∷ take_while is_ascii_digit text) [])) ≡ cond test (digit ∷ take_while is_ascii_digit text) []
digits_either digit text true test rest = ap₂ (λ d (ds : List ℕ). d ∷ ds) (digit_back digit test) rest
digits_either digit text false test rest = refl

-- the digits at the start write themselves
pub digits_back : (text : List ℕ) → map glyph (map (λ d. d - 48) (take_while is_ascii_digit text)) ≡ take_while is_ascii_digit text
digits_back [] = refl
digits_back (digit ∷ text) =
    rw (take_while-cons is_ascii_digit digit text) (digits_either digit text (is_ascii_digit digit) refl (digits_back text))

split_either : (byte : ℕ) (text : List ℕ) (test : Bool) → text ≡ take_while is_ascii_digit text ++ drop (length (take_while is_ascii_digit text)) text
    → byte ∷ text ≡ cond test (byte ∷ take_while is_ascii_digit text) [] ++ drop (length (cond test (byte ∷ take_while is_ascii_digit text) [])) (byte ∷ text)
split_either byte text true rest = ap (λ (ds : List ℕ). byte ∷ ds) rest
split_either byte text false rest = refl

-- a text is the digits at the start and the rest
pub digits_and_rest : (text : List ℕ) → text ≡ take_while is_ascii_digit text ++ drop (length (take_while is_ascii_digit text)) text
digits_and_rest [] = refl
digits_and_rest (byte ∷ text) =
    let whole = split_either byte text (is_ascii_digit byte) (digits_and_rest text) in
    rw (take_while-cons is_ascii_digit byte text) whole

-- bytes that are all the same
pub all_same : (byte : ℕ) (bytes : List ℕ) → list_all (λ b. b == byte) bytes ≡ true → bytes ≡ replicate (length bytes) byte
all_same byte [] same = refl
all_same byte (first ∷ bytes) same =
    let parts = and_parts _ _ same in
    ap₂ (λ b (bs : List ℕ). b ∷ bs) (eqb-true first byte parts.0) (all_same byte bytes parts.1)

-- text that is read as an account number is its text
pub pan_of-takes : (text pan : List ℕ) → length text ≡ PAN_DIGITS → pan_of text ≡ Some pan
    → IsTrue (is_pan pan) × (text ≡ map glyph pan ++ replicate (PAN_DIGITS - length pan) 102)
unfolding pan_of
pan_of-takes text pan sized found =
    let digits : List ℕ = take_while is_ascii_digit text in
    let rest : List ℕ = drop (length digits) text in
    let tested = pan_test (list_all (λ b. b == 102) rest) (map (λ d. d - 48) digits) pan found in
    let made = pan_from-some (map (λ d. d - 48) digits) pan tested.1 in
    let valid : IsTrue (is_pan pan) = subst (λ (p : List ℕ). IsTrue (is_pan p)) made.1 made.0 in
    let front : map glyph pan ≡ digits = ap (map glyph) (sym made.1) ∙ digits_back text in
    let count : length digits ≡ length pan = omega (arith, ap length made.1, length-map digits (λ d. d - 48)) in
    let whole = digits_and_rest text in
    let filled : length rest ≡ PAN_DIGITS - length pan = omega (arith, ap length whole, length-append digits rest) in
    (valid, whole ∙ ap₂ (λ (a b : List ℕ). a ++ b) (sym front) (all_same 102 rest tested.0 ∙ ap (λ n. replicate n 102) filled))
  where
    pan_test : (test : Bool) (values pan : List ℕ) → cond test (pan_from values) None ≡ Some pan → (test ≡ true) × (pan_from values ≡ Some pan)
    pan_test true values pan found = (refl, found)
    pan_test false values pan found = absurd cc

-- ---- the text is read again

values_again : (digits : List ℕ) → are_decimal digits ≡ true → map (λ d. d - 48) (map glyph digits) ≡ digits
values_again [] small = refl
values_again (digit ∷ digits) small =
    let parts = and_parts _ _ small in
    let glyph_is = glyph-decimal digit parts.0 in
    let first : glyph digit - 48 ≡ digit = omega (arith, glyph_is) in
    ap₂ (λ d (ds : List ℕ). d ∷ ds) first (values_again digits parts.1)

no_digits : (count : ℕ) → take_while is_ascii_digit (replicate count 102) ≡ []
no_digits zero = refl
no_digits (suc count) = take_while-cons is_ascii_digit 102 (replicate count 102)

is_digit : (digit : ℕ) → leb digit 9 ≡ true → is_ascii_digit (glyph digit) ≡ true
is_digit digit small =
    let glyph_is = glyph-decimal digit small in
    let below = leb-true digit 9 small in
    and_from _ _ (le-leb 48 (glyph digit) (omega arith)) (le-leb (glyph digit) 57 (omega arith))

digits_again : (digits : List ℕ) (count : ℕ) → are_decimal digits ≡ true
    → take_while is_ascii_digit (map glyph digits ++ replicate count 102) ≡ map glyph digits
digits_again [] count small = no_digits count
digits_again (digit ∷ digits) count small =
    let parts = and_parts _ _ small in
    take_while-cons is_ascii_digit (glyph digit) (map glyph digits ++ replicate count 102)
    ∙ ap₂ (λ test (ds : List ℕ). cond test (glyph digit ∷ ds) []) (is_digit digit parts.0) (digits_again digits count parts.1)

filled_again : (count : ℕ) → list_all (λ b. b == 102) (replicate count 102) ≡ true
filled_again zero = refl
filled_again (suc count) = filled_again count

decimal-pan : (pan : List ℕ) → IsTrue (is_pan pan) → are_decimal pan ≡ true
unfolding is_pan
decimal-pan pan valid = (and_parts _ _ valid).1

pub pan_of-again : (pan : List ℕ) (count : ℕ) → IsTrue (is_pan pan) → pan_of (map glyph pan ++ replicate count 102) ≡ Some pan
unfolding pan_of
pan_of-again pan count valid =
    let small = decimal-pan pan valid in
    let front = digits_again pan count small in
    rw (front, drop_at (map glyph pan) (replicate count 102) _ refl, filled_again count, values_again pan small) (pan_from-valid pan valid)

-- ---- the text of the bytes

glyphs_filled : (count : ℕ) → map glyph (replicate count 0x0F) ≡ replicate count 102
glyphs_filled zero = refl
glyphs_filled (suc count) = ap (λ (text : List ℕ). 102 ∷ text) (glyphs_filled count)

nibble-below : (pan : List ℕ) (count : ℕ) → IsTrue (is_pan pan) → (i : ℕ) → get_or (pan ++ replicate count 0x0F) i 0 < 16
nibble-below pan count valid i =
    elim (cases_lt i (length (pan ++ replicate count 0x0F))) [
      | inl below ↦ nibbles-below pan count valid i 0 below
      | inr past ↦ rw (get_or_past (pan ++ replicate count 0x0F) i 0 past) (lit< tt)
    ]

pub pan_text : (pan : List ℕ) → IsTrue (is_pan pan) → encode_lower (pan_bytes pan) ≡ map glyph pan ++ replicate (PAN_DIGITS - length pan) 102
unfolding pan_bytes
pan_text pan valid =
    let count : ℕ = PAN_DIGITS - length pan in
    let few = (length-pan pan valid).1 in
    let even : length (pan ++ replicate count 0x0F) % 2 ≡ 0 = omega (arith, length-append pan (replicate count 0x0F), length-replicate {A = ℕ} count 0x0F) in
    encode_lower-packed (pan ++ replicate count 0x0F) (nibble-below pan count valid) even
    ∙ map-append glyph pan (replicate count 0x0F)
    ∙ ap (λ (text : List ℕ). map glyph pan ++ text) (glyphs_filled count)

-- how many digits it has
pub pan_text-size : (pan : List ℕ) → IsTrue (is_pan pan) → length (map glyph pan ++ replicate (PAN_DIGITS - length pan) 102) ≡ PAN_DIGITS
pan_text-size pan valid =
    let few = (length-pan pan valid).1 in
    let count : ℕ = PAN_DIGITS - length pan in
    omega (arith, length-append (map glyph pan) (replicate count 102), length-map pan glyph, length-replicate {A = ℕ} count 102)

IsBytes-packed : (nibbles : List ℕ) → ((i : ℕ) → get_or nibbles i 0 < 16) → IsBytes (packed nibbles)
unfolding packed
IsBytes-packed [] small i = lit< tt
IsBytes-packed (nibble ∷ []) small i = lit< tt
IsBytes-packed (high ∷ low ∷ nibbles) small zero = omega (arith, small 0, small 1)
IsBytes-packed (high ∷ low ∷ nibbles) small (suc i) = IsBytes-packed nibbles (λ k. small (suc (suc k))) i

-- an account number's bytes are bytes, ten of them
pub IsBytes-pan_bytes : (pan : List ℕ) → IsTrue (is_pan pan) → IsBytes (pan_bytes pan)
unfolding pan_bytes
IsBytes-pan_bytes pan valid = IsBytes-packed (pan ++ replicate (PAN_DIGITS - length pan) 0x0F) (nibble-below pan (PAN_DIGITS - length pan) valid)

pub length-pan_bytes : (pan : List ℕ) → IsTrue (is_pan pan) → length (pan_bytes pan) ≡ 10
length-pan_bytes pan valid =
    let text = pan_text pan valid in
    omega (arith, length-encode_with lower_digits (pan_bytes pan), ap length text, pan_text-size pan valid)
