-- A value of decimal digits alone is an account number if the digits are one.
use Rattle.std.proofs.Common.{◌≡◌, ℕ, ◌≤◌, Bool, true, false, List, [], ◌∷◌, length, drop, take_while, nat_le, cond, Some, None, if◌then◌else◌}
use Rattle.std.proofs.Common.{refl, sym, ap, ◌∙◌}
use Rattle.std.specs.List.{list_all, flat_map}
use Rattle.std.proofs.lemmas.Bool.{and_parts, and_from, le-leb}
use Rattle.std.proofs.lemmas.List.Sums.{take_while-cons}
use Rattle.issuer_base.specs.CardNumber.{is_pan, pan_from}
use Rattle.issuer_base.specs.ChipData.{digits_of}
use Rattle.chip_request.specs.Fields.{leading_digits, has_account_number}
use Rattle.chip_request.specs.Forms.{account_number_in}

all_taken : (p : ℕ → Bool) (xs : List ℕ) → list_all p xs ≡ true → take_while p xs ≡ xs
all_taken p [] all = refl
all_taken p (x ∷ xs) all =
    let parts = and_parts (p x) (list_all p xs) all in
    take_while-cons p x xs ∙ ap (λ b. cond b (x ∷ take_while p xs) []) parts.0 ∙ ap (λ rest. x ∷ rest) (all_taken p xs parts.1)

none_left : (xs : List ℕ) → drop (length xs) xs ≡ []
none_left [] = refl
none_left (x ∷ xs) = none_left xs

all_leading : (value : List ℕ) → is_pan (flat_map digits_of value) ≡ true → leading_digits value ≡ flat_map digits_of value
unfolding leading_digits is_pan
all_leading value pan = all_taken (λ nibble. nat_le nibble 9) (flat_map digits_of value) (and_parts _ _ pan).1

has_digits : (value : List ℕ) → 4 ≤ length value → length value ≤ 10 → is_pan (flat_map digits_of value) ≡ true → has_account_number value ≡ true
unfolding has_account_number
has_digits value least most pan =
    let sized = and_from _ _ (le-leb 4 (length value) least) (le-leb (length value) 10 most) in
    rw (all_leading value pan, none_left) (and_from _ _ (and_from _ _ sized pan) refl)

record IsNumber (is : Bool) (digits pan : List ℕ) : Type 0 where
  valid : is ≡ true
  same : digits ≡ pan

number_of_digits : (is : Bool) (digits pan : List ℕ) → (if is then Some digits else None) ≡ Some pan → IsNumber is digits pan
number_of_digits true digits pan e = record { valid = refl; same = cc }
number_of_digits false digits pan e = absurd cc

-- where all nibbles of a value are those of an account number, it is the number in the value
pub digits_alone : (value pan : List ℕ) → 4 ≤ length value → length value ≤ 10 → pan_from (flat_map digits_of value) ≡ Some pan
    → Some pan ≡ account_number_in value
unfolding pan_from
digits_alone value pan least most found =
    let number = number_of_digits (is_pan (flat_map digits_of value)) (flat_map digits_of value) pan found in
    rw (has_digits value least most number.valid) (ap Some (sym number.same ∙ sym (all_leading value number.valid)))
