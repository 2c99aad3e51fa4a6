-- The bytes of an account number are read as this account number.
use Rattle.std.proofs.Common.{◌≡◌, ℕ, zero, suc, ◌+◌, ◌*◌, ◌/◌, ◌%◌, ◌≤◌, ◌==◌, true, leb, nat_le, le-leb, List, [], ◌∷◌, ◌++◌, length, drop}
use Rattle.std.proofs.Common.{take_while, IsTrue, refl, ap, ◌∙◌, append-nil, lit<, arith}
use Rattle.std.proofs.lemmas.Bool.{and_parts, leb-true}
use Rattle.std.proofs.lemmas.List.Sums.{take_while-cons}
use Rattle.std.proofs.Math.Seq.{drop-append_seam}
use Rattle.std.specs.List.{list_all, flat_map}
use Rattle.hex.specs.Hex.{IsBytes}
use Rattle.issuer_base.specs.CardNumber.{is_pan}
use Rattle.issuer_base.specs.ChipData.{digits_of}
use Rattle.issuer_base.proofs.CardNumberLemmas.{length-pan}
use Rattle.chip_request.specs.Fields.{leading_digits, has_account_number}
use Rattle.terminal_kernel.specs.Requested.{number_bytes}
use Rattle.terminal_kernel.proofs.Bytes.{IsBytes-one}

-- each is a decimal digit
abbrev pub are_digits : List ℕ → Type 0
are_digits digits = list_all (λ digit. nat_le digit 9) digits ≡ true

-- the digits of an account number are decimal
pub digits-pan : (pan : List ℕ) → IsTrue (is_pan pan) → are_digits pan
unfolding is_pan
digits-pan pan valid = (and_parts _ _ valid).1

-- what follows the digits: a nibble F behind an odd number of them
abbrev filling : List ℕ → List ℕ
filling [] = []
filling (digit ∷ []) = 15 ∷ []
filling (high ∷ low ∷ digits) = filling digits

-- the nibbles of the bytes are the digits, and what follows them
nibbles-number_bytes : (digits : List ℕ) → are_digits digits → flat_map digits_of (number_bytes digits) ≡ digits ++ filling digits
unfolding number_bytes
nibbles-number_bytes [] decimal = refl
nibbles-number_bytes (digit ∷ []) decimal =
    let high : (16 * digit + 15) / 16 ≡ digit = omega arith in
    let low : (16 * digit + 15) % 16 ≡ 15 = omega arith in
    rw (high, low) refl
nibbles-number_bytes (first ∷ second ∷ digits) decimal =
    let parts : (nat_le first 9 ≡ true) × are_digits (second ∷ digits) = and_parts _ _ decimal in
    let others : (nat_le second 9 ≡ true) × are_digits digits = and_parts _ _ parts.1 in
    let below : second ≤ 9 = leb-true _ _ others.0 in
    let high : (16 * first + second) / 16 ≡ first = omega arith in
    let low : (16 * first + second) % 16 ≡ second = omega arith in
    rw (high, low) (ap (λ (more : List ℕ). first ∷ second ∷ more) (nibbles-number_bytes digits others.1))

-- digits are taken from the front
taken-digits : (digits behind : List ℕ) → are_digits digits
    → take_while (λ nibble. nat_le nibble 9) (digits ++ behind) ≡ digits ++ take_while (λ nibble. nat_le nibble 9) behind
taken-digits [] behind decimal = refl
taken-digits (digit ∷ digits) behind decimal =
    let parts : (nat_le digit 9 ≡ true) × are_digits digits = and_parts _ _ decimal in
    rw (take_while-cons (λ nibble. nat_le nibble 9) digit (digits ++ behind), parts.0)
    (ap (λ (more : List ℕ). digit ∷ more) (taken-digits digits behind parts.1))

taken-filling : (digits : List ℕ) → take_while (λ nibble. nat_le nibble 9) (filling digits) ≡ []
taken-filling [] = refl
taken-filling (digit ∷ []) = refl
taken-filling (first ∷ second ∷ digits) = taken-filling digits

all-filling : (digits : List ℕ) → list_all (λ nibble. nibble == 15) (filling digits) ≡ true
all-filling [] = refl
all-filling (digit ∷ []) = refl
all-filling (first ∷ second ∷ digits) = all-filling digits

-- the bytes are read as the digits
pub leading_digits-number_bytes : (digits : List ℕ) → are_digits digits → leading_digits (number_bytes digits) ≡ digits
unfolding leading_digits
leading_digits-number_bytes digits decimal =
    ap (take_while (λ nibble. nat_le nibble 9)) (nibbles-number_bytes digits decimal)
    ∙ taken-digits digits (filling digits) decimal
    ∙ ap (λ (more : List ℕ). digits ++ more) (taken-filling digits)
    ∙ append-nil digits

-- there is a byte for each two digits
pub length-number_bytes : (digits : List ℕ) → (length digits ≤ 2 * length (number_bytes digits)) × (2 * length (number_bytes digits) ≤ length digits + 1)
unfolding number_bytes
length-number_bytes [] = (omega arith, omega arith)
length-number_bytes (digit ∷ []) = (omega arith, omega arith)
length-number_bytes (first ∷ second ∷ digits) = let others = length-number_bytes digits in (omega (arith, others.0), omega (arith, others.1))

-- they have the form of an account number
pub has_account_number-number_bytes : (pan : List ℕ) → IsTrue (is_pan pan) → has_account_number (number_bytes pan) ≡ true
unfolding has_account_number
has_account_number-number_bytes pan valid =
    let decimal = digits-pan pan valid in
    let sizes = length-pan pan valid in
    let bytes = length-number_bytes pan in
    let least : leb 4 (length (number_bytes pan)) ≡ true = le-leb _ _ (omega (arith, sizes.0, bytes.0)) in
    let most : leb (length (number_bytes pan)) 10 ≡ true = le-leb _ _ (omega (arith, sizes.1, bytes.1)) in
    let behind : drop (length pan) (flat_map digits_of (number_bytes pan)) ≡ filling pan =
    ap (drop (length pan)) (nibbles-number_bytes pan decimal) ∙ drop-append_seam pan (filling pan) in
    rw (least, most, leading_digits-number_bytes pan decimal, valid, behind) (all-filling pan)

-- and each is below 256
pub IsBytes-number_bytes : (digits : List ℕ) → are_digits digits → IsBytes (number_bytes digits)
unfolding number_bytes
IsBytes-number_bytes [] decimal i = lit< tt
IsBytes-number_bytes (digit ∷ []) decimal i =
    let parts : (nat_le digit 9 ≡ true) × are_digits [] = and_parts _ _ decimal in
    let below : digit ≤ 9 = leb-true _ _ parts.0 in
    IsBytes-one (16 * digit + 15) (omega arith) i
IsBytes-number_bytes (first ∷ second ∷ digits) decimal zero =
    let parts : (nat_le first 9 ≡ true) × are_digits (second ∷ digits) = and_parts _ _ decimal in
    let others : (nat_le second 9 ≡ true) × are_digits digits = and_parts _ _ parts.1 in
    let high : first ≤ 9 = leb-true _ _ parts.0 in
    let low : second ≤ 9 = leb-true _ _ others.0 in
    omega arith
IsBytes-number_bytes (first ∷ second ∷ digits) decimal (suc i) =
    let parts : (nat_le first 9 ≡ true) × are_digits (second ∷ digits) = and_parts _ _ decimal in
    let others : (nat_le second 9 ≡ true) × are_digits digits = and_parts _ _ parts.1 in
    IsBytes-number_bytes digits others.1 i
