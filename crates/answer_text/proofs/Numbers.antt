-- The decimal digits of small numbers.
use Rattle.std.proofs.Common.{◌≡◌, ℕ, ◌+◌, ◌/◌, ◌%◌, ◌<◌, ◌≤◌, List, [], ◌∷◌, ◌++◌, ap, ◌∙◌, arith}
use Rattle.std.proofs.lemmas.Fmt.{decimal_digit, decimal_step}
use Rattle.std.specs.Fmt.{decimal}

-- two digits
pub decimal-two : (n : ℕ) → 10 ≤ n → n < 100 → decimal n ≡ (48 + n / 10) ∷ (48 + n % 10) ∷ []
decimal-two n least below =
    decimal_step n least (omega arith)
    ∙ ap (λ (front : List ℕ). front ++ (48 + n % 10) ∷ []) (decimal_digit (n / 10) (omega arith))

-- three digits
pub decimal-three : (n : ℕ) → 100 ≤ n → n < 1000 → decimal n ≡ (48 + n / 100) ∷ (48 + n / 10 % 10) ∷ (48 + n % 10) ∷ []
decimal-three n least below =
    let hundreds : n / 10 / 10 ≡ n / 100 = omega arith in
    decimal_step n (omega arith) (omega arith)
    ∙ ap (λ (front : List ℕ). front ++ (48 + n % 10) ∷ []) (decimal-two (n / 10) (omega arith) (omega arith))
    ∙ ap (λ (k : ℕ). (48 + k) ∷ (48 + n / 10 % 10) ∷ (48 + n % 10) ∷ []) hundreds
