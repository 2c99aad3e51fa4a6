-- Indices in lists: what is read after a write, before a list, and after one.
use Rattle.std.proofs.Common.{◌≡◌, ◌≢◌, ℕ, zero, suc, ◌+◌, ◌<◌, List, [], ◌∷◌, ◌++◌, length, set, map, All, Some}
use Rattle.std.proofs.Common.{refl, ap, subst, sym, ◌∙◌, arith}
use Rattle.std.proofs.lemmas.Option.{get_or_from_slice_get, slice_get_within}
use Rattle.std.specs.List.{slice_get}

module _ {X : Type 0} where
  -- what was written is read again
  pub read-written : (xs : List X) (place : ℕ) (new : X) → place < length xs → slice_get (set xs place new) place ≡ Some new
  read-written [] place new within = absurd (omega arith)
  read-written (x ∷ xs) zero new within = refl
  read-written (x ∷ xs) (suc place) new within = read-written xs place new (omega arith)

  -- an element written with what it was
  pub write-same : (xs : List X) (place : ℕ) (old new : X) → slice_get xs place ≡ Some old → new ≡ old → set xs place new ≡ xs
  write-same [] place old new is same = refl
  write-same (x ∷ xs) zero old new is same = let here : x ≡ old = (let e : Some x ≡ Some old = is in cc) in ap (λ (y : X). y ∷ xs) (same ∙ sym here)
  write-same (x ∷ xs) (suc place) old new is same = ap (λ (ys : List X). x ∷ ys) (write-same xs place old new is same)

  -- and each other element as it was
  pub read-other : (xs : List X) (place : ℕ) (new : X) (other : ℕ) → other ≢ place → slice_get (set xs place new) other ≡ slice_get xs other
  read-other [] place new other apart = refl
  read-other (x ∷ xs) zero new zero apart = absurd (apart refl)
  read-other (x ∷ xs) zero new (suc other) apart = refl
  read-other (x ∷ xs) (suc place) new zero apart = refl
  read-other (x ∷ xs) (suc place) new (suc other) apart = read-other xs place new other (λ same. apart (ap suc same))

  -- what holds of all elements holds of the one at an index
  pub all-at : (P : X → Type 0) (xs : List X) → All P xs → (place : ℕ) (x : X) → slice_get xs place ≡ Some x → P x
  all-at P xs all place x is = subst P (get_or_from_slice_get xs place x x is) (all place x (slice_get_within xs place x is))

  -- an index within a list has an element
  pub read-within : (xs : List X) (place : ℕ) → place < length xs → (x : X) × (slice_get xs place ≡ Some x)
  read-within [] place within = absurd (omega arith)
  read-within (x ∷ xs) zero within = (x, refl)
  read-within (x ∷ xs) (suc place) within = read-within xs place (omega arith)

  -- an element of a list is one with more after it
  pub read-front : (xs more : List X) (place : ℕ) (x : X) → slice_get xs place ≡ Some x → slice_get (xs ++ more) place ≡ Some x
  read-front [] more place x is = absurd (cc)
  read-front (y ∷ xs) more zero x is = is
  read-front (y ∷ xs) more (suc place) x is = read-front xs more place x is

  -- and one before others is one without them
  pub read-alone : (xs more : List X) (place : ℕ) (x : X) → place < length xs → slice_get (xs ++ more) place ≡ Some x → slice_get xs place ≡ Some x
  read-alone [] more place x within is = absurd (omega arith)
  read-alone (y ∷ xs) more zero x within is = is
  read-alone (y ∷ xs) more (suc place) x within is = read-alone xs more place x (omega arith) is

  -- what is after the first ones
  pub read-behind : (xs more : List X) (place : ℕ) → slice_get (xs ++ more) (length xs + place) ≡ slice_get more place
  read-behind [] more place = ap (slice_get more) (omega arith)
  read-behind (y ∷ xs) more place = let at : length (y ∷ xs) + place ≡ suc (length xs + place) = omega arith in
      ap (slice_get ((y ∷ xs) ++ more)) at ∙ read-behind xs more place

-- something for each of a list's elements makes a list
module _ {X Y : Type 0} where
  pub choose : (xs : List X) (P : ℕ → X → Y → Type 0) → ((place : ℕ) (x : X) → slice_get xs place ≡ Some x → (y : Y) × P place x y)
      → (ys : List Y) × (length ys ≡ length xs)
      × ((place : ℕ) (x : X) (y : Y) → slice_get xs place ≡ Some x → slice_get ys place ≡ Some y → P place x y)
  choose [] P each = ([], refl, λ place x y is other. absurd (cc))
  choose (x ∷ xs) P each =
      let first = each zero x refl in
      let others = choose xs (λ place. P (suc place)) (λ place. each (suc place)) in (
        first.0 ∷ others.0,
        (let long = others.1 in omega (arith, long)),
        λ place. elim place as (λ place. (other : X) (y : Y) → slice_get (x ∷ xs) place ≡ Some other → slice_get (first.0 ∷ others.0) place ≡ Some y
            → P place other y) [
              | zero ↦ λ other y is given.
                  let same : x ≡ other = let e : Some x ≡ Some other = is in cc in
                  let given_same : first.0 ≡ y = let e : Some first.0 ≡ Some y = given in cc in
                  subst (λ y. P zero other y) given_same (subst (λ x. P zero x first.0) same first.1)
              | suc place ↦ λ other y is given. others.2 place other y is given
            ],
      )

  -- what a list is made to
  pub read-map : (f : X → Y) (xs : List X) (place : ℕ) (x : X) → slice_get xs place ≡ Some x → slice_get (map f xs) place ≡ Some (f x)
  read-map f [] place x is = absurd (cc)
  read-map f (y ∷ xs) zero x is = let same : y ≡ x = let e : Some y ≡ Some x = is in cc in ap (λ y. Some (f y)) same
  read-map f (y ∷ xs) (suc place) x is = read-map f xs place x is

  pub read-mapped : (f : X → Y) (xs : List X) (place : ℕ) (y : Y) → slice_get (map f xs) place ≡ Some y
      → (x : X) × (slice_get xs place ≡ Some x) × (f x ≡ y)
  read-mapped f [] place y is = absurd (cc)
  read-mapped f (x ∷ xs) zero y is = (x, refl, let e : Some (f x) ≡ Some y = is in cc)
  read-mapped f (x ∷ xs) (suc place) y is = read-mapped f xs place y is
