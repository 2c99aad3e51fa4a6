-- Sums over a list.
use Rattle.std.specs.Prelude.{ℕ, ◌+◌, List, [], ◌∷◌, Bool, cond}

-- the sum of f over the list
abbrev pub total : {A : Type 0} → (A → ℕ) → List A → ℕ
total f [] = 0
total f (x ∷ xs) = f x + total f xs

-- 1 if the test is true, and else 0
abbrev pub one_if : Bool → ℕ
one_if test = cond test 1 0

-- how many elements pass the test
abbrev pub how_many : {A : Type 0} → (A → Bool) → List A → ℕ
how_many test xs = total (λ x. one_if (test x)) xs
