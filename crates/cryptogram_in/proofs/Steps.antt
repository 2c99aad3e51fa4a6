-- The lanes of a list of checks.
use Rattle.std.proofs.Common.{◌≡◌, ℕ, suc, ◌+◌, ◌<◌, List, [], ◌∷◌, map, length, get_or, refl, ap, ap₂, ◌∙◌, arith}
use Rattle.std.specs.List.{range_with_len}

-- the lanes of a batch, each of which is a function of its entry's parts
pub lanes_are : {A K T X : Type 0} (entries : List A) (key : A → K) (text : A → T) (no_key : K) (no_text : T) (h : K → T → X) (g : ℕ → X) (from : ℕ)
    → ((i : ℕ) → i < length entries → g (from + i) ≡ h (get_or (map key entries) i no_key) (get_or (map text entries) i no_text))
    → map g (range_with_len from (length entries)) ≡ map (λ entry. h (key entry) (text entry)) entries
lanes_are [] key text no_key no_text h g from is = refl
lanes_are (entry ∷ rest) key text no_key no_text h g from is =
    let first : from ≡ from + 0 = omega arith in
    ap₂ (λ x xs. x ∷ xs) (ap g first ∙ is 0 (omega arith))
    (lanes_are rest key text no_key no_text h g (from + 1)
    (λ i below. let place : from + 1 + i ≡ from + suc i = omega arith in ap g place ∙ is (suc i) (omega arith)))
