-- The table of the digits' values tabulates `digit_value`.
use Rattle.std.proofs.Common.{◌≡◌, ℕ, ◌<◌, ◌≤◌, get_or, map, Option, Some, None, refl, ap, ◌∙◌, unwrap_or, ◌==◌, lit≤, arith}
use Rattle.std.proofs.lemmas.List.FromFn.{get_or-map-range_with_len}
use Rattle.std.proofs.lemmas.List.Quantifiers.{position-Some}
use Rattle.std.specs.List.{range_with_len}
use Rattle.hex.specs.Hex.{lower_digits}
use Rattle.journal_rec.specs.Reading.{digit_value}
use Rattle.journal_rec.specs.declared.digits.TheConstants.{NONE, VALUES}

tabulated : VALUES ≡ map (λ digit. unwrap_or (digit_value digit) NONE) (range_with_len 0 256)
tabulated = refl

-- what the table has for a byte
pub VALUES-at : (digit index d : ℕ) → digit < 256 → index ≡ digit → get_or VALUES index d ≡ unwrap_or (digit_value digit) NONE
VALUES-at digit index d below same =
    ap (λ table. get_or table index d) tabulated
    ∙ get_or-map-range_with_len (λ digit. unwrap_or (digit_value digit) NONE) 0 256 index digit d (omega arith) (omega arith)

-- a digit's value is below 16
pub digit_value-below : (digit value : ℕ) → digit_value digit ≡ Some value → value < 16
digit_value-below digit value found = (position-Some (λ other. other == digit) lower_digits value 0 found).0

bounded_either : (digit : ℕ) (value : Option ℕ) → digit_value digit ≡ value → unwrap_or value NONE ≤ NONE
bounded_either digit None found = lit≤ tt
bounded_either digit (Some value) found = omega (arith, digit_value-below digit value found)

pub VALUES-bounded : (digit index d : ℕ) → digit < 256 → index ≡ digit → get_or VALUES index d ≤ NONE
VALUES-bounded digit index d below same = rw (VALUES-at digit index d below same) (bounded_either digit (digit_value digit) refl)
