-- Sums over lists that change at one place, and lists read by `get_elem?`.
use Rattle.std.proofs.Common.{◌≡◌, ◌≢◌, ℕ, zero, suc, ◌+◌, ◌<◌, ◌≤◌, ◌⊎◌, List, [], ◌∷◌, ◌++◌, map, set, sym, refl, ap, inl, inr, arith}
use Rattle.std.proofs.lemmas.Bool.{cases_lt}
use mathlib.Core.Option.{some, some-injective, some-ne-none}
use lib.ListN.{get_elem?}
use Rattle.shared_seats.specs.Totals.{total}

module _ {A : Type 0} where
  pub at_set : (xs : List A) (i j : ℕ) (x y : A) → get_elem? (set xs i x) j ≡ some y → ((j ≡ i) × (x ≡ y)) ⊎ ((j ≢ i) × (get_elem? xs j ≡ some y))
  at_set [] i j x y e = absurd (some-ne-none y (sym e))
  at_set (z ∷ zs) zero zero x y e = inl (refl, some-injective x y e)
  at_set (z ∷ zs) zero (suc j) x y e = inr ((λ h. omega arith), e)
  at_set (z ∷ zs) (suc i) zero x y e = inr ((λ h. omega arith), e)
  at_set (z ∷ zs) (suc i) (suc j) x y e =
      elim (at_set zs i j x y e) [
        | inl here ↦ inl (ap suc here.0, here.1)
        | inr there ↦ let apart = there.0 in inr ((λ h. apart (omega arith)), there.1)
      ]

  pub at_snoc : (xs : List A) (x y : A) (j : ℕ) → get_elem? (xs ++ x ∷ []) j ≡ some y → (get_elem? xs j ≡ some y) ⊎ (x ≡ y)
  at_snoc [] x y zero e = inr (some-injective x y e)
  at_snoc [] x y (suc j) e = absurd (some-ne-none y (sym e))
  at_snoc (z ∷ zs) x y zero e = inl e
  at_snoc (z ∷ zs) x y (suc j) e = at_snoc zs x y j e

  pub at_one : (x y : A) (j : ℕ) → get_elem? (x ∷ []) j ≡ some y → x ≡ y
  at_one x y zero e = some-injective x y e
  at_one x y (suc j) e = absurd (some-ne-none y (sym e))

  pub set_again : (xs : List A) (i : ℕ) (x : A) → get_elem? xs i ≡ some x → set xs i x ≡ xs
  set_again [] i x e = refl
  set_again (z ∷ zs) zero x e = λ k. sym (some-injective z x e) k ∷ zs
  set_again (z ∷ zs) (suc i) x e = λ k. z ∷ set_again zs i x e k

  pub get_set_other : (xs : List A) (i j : ℕ) (x : A) → j ≢ i → get_elem? (set xs i x) j ≡ get_elem? xs j
  get_set_other [] i j x apart = refl
  get_set_other (z ∷ zs) zero zero x apart = absurd (apart refl)
  get_set_other (z ∷ zs) zero (suc j) x apart = refl
  get_set_other (z ∷ zs) (suc i) zero x apart = refl
  get_set_other (z ∷ zs) (suc i) (suc j) x apart = get_set_other zs i j x (λ e. apart (ap suc e))

  module _ {B : Type 0} (f : A → B) where
    pub map-set : (xs : List A) (i : ℕ) (x : A) → map f (set xs i x) ≡ set (map f xs) i (f x)
    map-set [] i x = refl
    map-set (z ∷ zs) zero x = refl
    map-set (z ∷ zs) (suc i) x = λ k. f z ∷ map-set zs i x k

    pub map-snoc : (xs : List A) (x : A) → map f (xs ++ x ∷ []) ≡ map f xs ++ f x ∷ []
    map-snoc [] x = refl
    map-snoc (z ∷ zs) x = λ k. f z ∷ map-snoc zs x k

    pub at_map : (xs : List A) (i : ℕ) (x : A) → get_elem? xs i ≡ some x → get_elem? (map f xs) i ≡ some (f x)
    at_map [] i x e = absurd (some-ne-none x (sym e))
    at_map (z ∷ zs) zero x e = ap (λ (y : A). some (f y)) (some-injective z x e)
    at_map (z ∷ zs) (suc i) x e = at_map zs i x e

  module _ (f : A → ℕ) where
    pub total-append : (xs ys : List A) → total f (xs ++ ys) ≡ total f xs + total f ys
    total-append [] ys = omega arith
    total-append (x ∷ xs) ys = omega (arith, total-append xs ys)

    pub total-one : (x : A) → total f (x ∷ []) ≡ f x
    total-one x = omega arith

    pub total-snoc : (xs : List A) (x : A) → total f (xs ++ x ∷ []) ≡ total f xs + f x
    total-snoc xs x = omega (arith, total-append xs (x ∷ []))

    -- the total once one of the list is changed
    pub total-set : (xs : List A) (i : ℕ) (x y : A) → get_elem? xs i ≡ some x → total f (set xs i y) + f x ≡ total f xs + f y
    total-set [] i x y e = absurd (some-ne-none x (sym e))
    total-set (z ∷ zs) zero x y e = omega (arith, ap f (some-injective z x e))
    total-set (z ∷ zs) (suc i) x y e = omega (arith, total-set zs i x y e)

    pub part_le : (xs : List A) (i : ℕ) (x : A) → get_elem? xs i ≡ some x → f x ≤ total f xs
    part_le [] i x e = absurd (some-ne-none x (sym e))
    part_le (z ∷ zs) zero x e = omega (arith, ap f (some-injective z x e))
    part_le (z ∷ zs) (suc i) x e = omega (arith, part_le zs i x e)

    pub parts_le : (xs : List A) (i j : ℕ) (x y : A) → j ≢ i → get_elem? xs i ≡ some x → get_elem? xs j ≡ some y → f x + f y ≤ total f xs
    parts_le [] i j x y apart e d = absurd (some-ne-none x (sym e))
    parts_le (z ∷ zs) zero zero x y apart e d = absurd (apart refl)
    parts_le (z ∷ zs) zero (suc j) x y apart e d = omega (arith, ap f (some-injective z x e), part_le zs j y d)
    parts_le (z ∷ zs) (suc i) zero x y apart e d = omega (arith, ap f (some-injective z y d), part_le zs i x e)
    parts_le (z ∷ zs) (suc i) (suc j) x y apart e d = omega (arith, parts_le zs i j x y (λ h. apart (ap suc h)) e d)

    pub total-none : (xs : List A) → ((j : ℕ) (y : A) → get_elem? xs j ≡ some y → f y ≡ 0) → total f xs ≡ 0
    total-none [] none = refl
    total-none (z ∷ zs) none = omega (arith, none 0 z refl, total-none zs (λ j y d. none (suc j) y d))

    -- where the others give nothing, the total is what one gives
    pub total-alone : (xs : List A) (i : ℕ) (x : A) → get_elem? xs i ≡ some x → ((j : ℕ) (y : A) → j ≢ i → get_elem? xs j ≡ some y → f y ≡ 0) → total f xs ≡ f x
    total-alone [] i x e others = absurd (some-ne-none x (sym e))
    total-alone (z ∷ zs) zero x e others =
        omega (arith, ap f (some-injective z x e), total-none zs (λ j y d. others (suc j) y (λ h. omega arith) d))
    total-alone (z ∷ zs) (suc i) x e others =
        omega (arith, others 0 z (λ h. omega arith) refl, total-alone zs i x e (λ j y apart d. others (suc j) y (λ h. apart (omega arith)) d))

    -- some part of a total that isn't 0 isn't 0
    pub some_part : (xs : List A) → 0 < total f xs → (j : ℕ) × (y : A) × (get_elem? xs j ≡ some y) × (0 < f y)
    some_part [] h = absurd (omega arith)
    some_part (z ∷ zs) h =
        elim (cases_lt 0 (f z)) [
          | inl here ↦ (0, z, refl, here)
          | inr none ↦ let there = some_part zs (omega arith) in (suc there.0, there.1, there.2, there.3)
        ]

  pub total-le : (f g : A → ℕ) → ((x : A) → f x ≤ g x) → (xs : List A) → total f xs ≤ total g xs
  total-le f g le [] = omega arith
  total-le f g le (x ∷ xs) = omega (arith, le x, total-le f g le xs)

  pub total-map : {B : Type 0} (f : B → ℕ) (g : A → B) (xs : List A) → total f (map g xs) ≡ total (λ x. f (g x)) xs
  total-map f g [] = refl
  total-map f g (x ∷ xs) = omega (arith, total-map f g xs)
