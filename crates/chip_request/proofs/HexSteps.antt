-- The values of the digits of one step, and the greatest value at each place.
use Rattle.std.proofs.Common.{◌≡◌, ℕ, ◌+◌, ◌-◌, ◌%◌, ◌<◌, ◌≤◌, List, length, map, set, get_or, bit_and, min, max, None}
use Rattle.std.proofs.Common.{inl, inr, sym, refl, ap, subst, ◌∙◌, arith}
use Rattle.std.specs.List.{range_with_len}
use Rattle.std.proofs.lemmas.Bool.{cases_eq}
use Rattle.std.proofs.lemmas.List.{get_or-set_same, get_or-set_other}
use Rattle.std.proofs.lemmas.List.FromFn.{get_or-map-range_with_len}
use Rattle.hex.specs.Hex.{hex_digit_value}
use Rattle.chip_request.specs.HexDigits.{value_below, HaveValues, AreWithin}

-- a byte's value as a digit, and 16 or more where it is none
abbrev pub value_in : ℕ → ℕ
value_in byte = min (((byte + 198) % 256 - 198 + 208) % 256) (min ((bit_and byte 223 + 191) % 256 + 10) 255)

every_value : map (λ byte. value_below 16 (value_in byte)) (range_with_len 0 256) ≡ map hex_digit_value (range_with_len 0 256)
every_value = refl

pub value_at : (byte : ℕ) → byte < 256 → value_below 16 (value_in byte) ≡ hex_digit_value byte
value_at byte below =
    sym (get_or-map-range_with_len (λ byte. value_below 16 (value_in byte)) 0 256 byte byte None below (omega arith))
    ∙ ap (λ xs. get_or xs byte None) every_value
    ∙ get_or-map-range_with_len hex_digit_value 0 256 byte byte None below (omega arith)

-- a property of each of the first numbers of a list, and of one more
holds_more : (P : ℕ → ℕ → Type 0) (count value : ℕ) (xs : List ℕ) → count < length xs → P count value
    → ((place : ℕ) → place < count → P place (get_or xs place 0))
    → (place : ℕ) → place < count + 1 → P place (get_or (set xs count value) place 0)
holds_more P count value xs here next before place below =
    elim (cases_eq place count) [
      | inl same ↦
          subst (λ n. P n (get_or (set xs count value) n 0)) (sym same)
          (subst (P count) (sym (get_or-set_same xs count value 0 here)) next)
      | inr apart ↦
          subst (P place) (sym (get_or-set_other xs count place value 0 apart)) (before place (omega (arith, below, apart)))
    ]

-- one more value
pub values_more : (count value : ℕ) (values digits : List ℕ) → count < length values
    → value_below 16 value ≡ hex_digit_value (get_or digits count 0)
    → HaveValues count values digits → HaveValues (count + 1) (set values count value) digits
values_more count value values digits here next before =
    holds_more (λ place value. value_below 16 value ≡ hex_digit_value (get_or digits place 0)) count value values here next before

-- one more value, and the greatest at its place
pub within_more : (count value : ℕ) (values others : List ℕ) → count < length values → count < length others
    → AreWithin count values others
    → AreWithin (count + 1) (set values count value) (set others count (max (get_or others count 0) value))
within_more count value values others here there before place below =
    elim (cases_eq place count) [
      | inl same ↦
          subst (λ n. get_or (set values count value) n 0 ≤ get_or (set others count (max (get_or others count 0) value)) n 0) (sym same)
          (rw (get_or-set_same values count value 0 here, get_or-set_same others count (max (get_or others count 0) value) 0 there) (omega arith))
      | inr apart ↦
          rw (get_or-set_other values count place value 0 apart, get_or-set_other others count place (max (get_or others count 0) value) 0 apart)
          (before place (omega (arith, below, apart)))
    ]

-- the greatest grow
pub within_grown : (size count value : ℕ) (values others : List ℕ) → count < length others
    → AreWithin size values others
    → AreWithin size values (set others count (max (get_or others count 0) value))
within_grown size count value values others there before place below =
    elim (cases_eq place count) [
      | inl same ↦
          let here : get_or values place 0 ≤ get_or others count 0 = subst (λ n. get_or values place 0 ≤ get_or others n 0) same (before place below) in
          subst (λ n. get_or values place 0 ≤ get_or (set others count (max (get_or others count 0) value)) n 0) (sym same)
          (rw (get_or-set_same others count (max (get_or others count 0) value) 0 there) (omega (arith, here)))
      | inr apart ↦
          rw (get_or-set_other others count place (max (get_or others count 0) value) 0 apart) (before place below)
    ]
