-- Lists of numbers below sixteen, and the nibbles of bytes.
use Rattle.std.proofs.Common.{◌≡◌, ℕ, zero, suc, ◌+◌, ◌*◌, ◌/◌, ◌%◌, ◌<◌, ◌≤◌, List, [], ◌∷◌, ◌++◌, length, get_or, set, take, replicate, refl, sym}
use Rattle.std.proofs.Common.{ap, ◌∙◌, arith, lit<, IsTrue, inl, inr}
use Rattle.std.proofs.lemmas.Bool.{cases_lt}
use Rattle.std.proofs.lemmas.List.{take_more_set, take_more, get_or_past, flat_map_more, length-set}
use Rattle.std.specs.List.{flat_map}
use Rattle.issuer_base.specs.CardNumber.{is_pan}
use Rattle.issuer_base.specs.ChipData.{digits_of}
use Rattle.issuer_base.proofs.CardNumberLemmas.{digit-pan}
use Rattle.key_derive.specs.Digits.{card_digits}

-- each number is a nibble
abbrev pub AreNibbles : List ℕ → Type 0
AreNibbles xs = (k : ℕ) → get_or xs k 0 < 16

pub AreNibbles-append : (xs ys : List ℕ) → AreNibbles xs → AreNibbles ys → AreNibbles (xs ++ ys)
AreNibbles-append [] ys in_xs in_ys k = in_ys k
AreNibbles-append (x ∷ xs) ys in_xs in_ys zero = in_xs zero
AreNibbles-append (x ∷ xs) ys in_xs in_ys (suc k) = AreNibbles-append xs ys (λ j. in_xs (suc j)) in_ys k

pub AreNibbles-zeros : (n : ℕ) → AreNibbles (replicate n 0)
AreNibbles-zeros zero k = lit< tt
AreNibbles-zeros (suc n) zero = lit< tt
AreNibbles-zeros (suc n) (suc k) = AreNibbles-zeros n k

pub AreNibbles-pan : (pan : List ℕ) → IsTrue (is_pan pan) → AreNibbles pan
AreNibbles-pan pan valid k =
    elim (cases_lt k (length pan)) [
      | inl below ↦ (let digit : get_or pan k 0 ≤ 9 = digit-pan pan valid k below in omega arith)
      | inr past ↦ (let none : get_or pan k 0 ≡ 0 = get_or_past pan k 0 past in omega arith)
    ]

pub AreNibbles-digits_of : (byte : ℕ) → byte < 256 → AreNibbles (digits_of byte)
AreNibbles-digits_of byte small zero = let high : byte / 16 < 16 = omega arith in high
AreNibbles-digits_of byte small (suc zero) = let low : byte % 16 < 16 = omega arith in low
AreNibbles-digits_of byte small (suc (suc k)) = lit< tt

-- so are the digits of a card, after any zeros
pub AreNibbles-row : (zeros : ℕ) (pan : List ℕ) (psn : ℕ) → IsTrue (is_pan pan) → psn < 256 → AreNibbles (replicate zeros 0 ++ card_digits pan psn)
AreNibbles-row zeros pan psn valid small = AreNibbles-append (replicate zeros 0) (card_digits pan psn) (AreNibbles-zeros zeros) (AreNibbles-append pan
    (digits_of psn) (AreNibbles-pan pan valid) (AreNibbles-digits_of psn small))

pub AreNibbles-set : (xs : List ℕ) (i x : ℕ) → AreNibbles xs → x < 16 → AreNibbles (set xs i x)
AreNibbles-set [] i x in_xs small k = in_xs k
AreNibbles-set (y ∷ xs) zero x in_xs small zero = small
AreNibbles-set (y ∷ xs) zero x in_xs small (suc k) = in_xs (suc k)
AreNibbles-set (y ∷ xs) (suc i) x in_xs small zero = in_xs zero
AreNibbles-set (y ∷ xs) (suc i) x in_xs small (suc k) = AreNibbles-set xs i x (λ j. in_xs (suc j)) small k

-- the nibbles of one more byte
pub nibbles-more : (nibbles bytes : List ℕ) (i : ℕ) → i < length bytes → 2 * i + 1 < length nibbles
    → take (2 * i) nibbles ≡ flat_map digits_of (take i bytes) → take (2 * (i + 1)) (set (set nibbles (2 * i) (get_or bytes i 0 / 16)) (2 * i + 1)
    (get_or bytes i 0 % 16)) ≡ flat_map digits_of (take (i + 1) bytes)
nibbles-more nibbles bytes i below room so_far =
    let byte : ℕ = get_or bytes i 0 in
    let first : List ℕ = set nibbles (2 * i) (byte / 16) in
    let room_first : 2 * i + 1 < length first = omega (arith, length-set nibbles (2 * i) (byte / 16)) in
    let twice : 2 * (i + 1) ≡ 2 * i + 1 + 1 = omega arith in
    ap (λ n. take n (set first (2 * i + 1) (byte % 16))) twice
    ∙ take_more_set first (2 * i + 1) (byte % 16) room_first
    ∙ ap (λ front. front ++ (byte % 16) ∷ []) (take_more_set nibbles (2 * i) (byte / 16) (omega arith) ∙ ap (λ front. front ++ (byte / 16) ∷ []) so_far)
    ∙ append-two (flat_map digits_of (take i bytes)) (byte / 16) (byte % 16)
    ∙ flat_map_more digits_of [] (take i bytes) byte
    ∙ ap (flat_map digits_of) (sym (take_more bytes i 0 below))
  where
    append-two : (xs : List ℕ) (x y : ℕ) → (xs ++ x ∷ []) ++ y ∷ [] ≡ xs ++ x ∷ y ∷ []
    append-two [] x y = refl
    append-two (z ∷ xs) x y = ap (λ rest. z ∷ rest) (append-two xs x y)
