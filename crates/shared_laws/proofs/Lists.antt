-- Elements of lists, and sums over them.
use Rattle.std.proofs.Common.{◌≡◌, ◌≤◌, ◌<◌, ℕ, zero, suc, List, [], ◌∷◌, None, Some, map, refl, sym, ap, arith}
use Rattle.std.specs.List.{slice_get}
use Rattle.shared_seats.specs.Totals.{total}

module _ {A : Type 0} (f : A → ℕ) where
  -- what an element gives is part of the sum
  pub part-within : (xs : List A) (index : ℕ) (x : A) → slice_get xs index ≡ Some x → f x ≤ total f xs
  part-within [] index x is = absurd (cc)
  part-within (y ∷ xs) zero x is = let same : y ≡ x = let e : Some y ≡ Some x = is in cc in omega (arith, ap f same)
  part-within (y ∷ xs) (suc index) x is = omega (arith, part-within xs index x is)

  -- a sum that isn't 0 has a part that isn't
  pub some-part : (xs : List A) → 0 < total f xs → (index : ℕ) × (x : A) × (slice_get xs index ≡ Some x) × (0 < f x)
  some-part [] more = absurd (omega arith)
  some-part (x ∷ xs) more =
      let goes : (n : ℕ) → f x ≡ n → (index : ℕ) × (y : A) × (slice_get (x ∷ xs) index ≡ Some y) × (0 < f y) =
      λ n. elim n as (λ n. f x ≡ n → (index : ℕ) × (y : A) × (slice_get (x ∷ xs) index ≡ Some y) × (0 < f y)) [
        | zero ↦ λ none.
            let rest = some-part xs (omega (arith, none, more)) in
            (suc rest.0, rest.1, rest.2, rest.3)
        | suc n ↦ λ some. (zero, x, refl, omega (arith, some))
      ] in
      goes (f x) refl

-- two sums are the same where the parts are
pub total-each : {X : Type 0} (f g : X → ℕ) (xs : List X) → ((place : ℕ) (x : X) → slice_get xs place ≡ Some x → f x ≡ g x) → total f xs ≡ total g xs
total-each f g [] each = refl
total-each f g (x ∷ xs) each = omega (arith, each zero x refl, total-each f g xs (λ place. each (suc place)))

-- and one is no more than another where the parts are
pub total-below : {X : Type 0} (f g : X → ℕ) (xs : List X) → ((place : ℕ) (x : X) → slice_get xs place ≡ Some x → f x ≤ g x) → total f xs ≤ total g xs
total-below f g [] each = omega arith
total-below f g (x ∷ xs) each = omega (arith, each zero x refl, total-below f g xs (λ place. each (suc place)))

-- what a mapped list has at a place
pub mapped-at : {X Y : Type 0} (f : X → Y) (xs : List X) (k : ℕ) (y : Y) → slice_get (map f xs) k ≡ Some y
    → (x : X) × (slice_get xs k ≡ Some x) × (y ≡ f x)
mapped-at f [] k y is = absurd (let e : None ≡ Some y = is in cc)
mapped-at f (x ∷ xs) zero y is = (x, refl, (let e : Some (f x) ≡ Some y = is in (let same : f x ≡ y = cc in sym same)))
mapped-at f (x ∷ xs) (suc k) y is = mapped-at f xs k y is
