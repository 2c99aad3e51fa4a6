-- The lines of a lane that were looked up ahead: one more of them, and each by its index.
use Rattle.std.proofs.Common.{◌≡◌, ℕ, ◌+◌, ◌<◌, zero, suc, List, [], ◌∷◌, ◌++◌, length, take, drop, get_or, Option, None, Some, IsSome, refl, sym, subst, ◌∙◌, arith}
use Rattle.std.proofs.lemmas.Option.{same_Some, none-some, slice_get-get_or}
use Rattle.std.specs.List.{slice_get, AllZip}
use Rattle.std.specs.Option.{option_map}

module _ {A B : Type 0} (R : A → B → Type 0) where
  next-first : (xs : List A) (x : A) (ys : List B) (y : B) → slice_get xs (length ys) ≡ Some x → AllZip R (take (length ys) xs) ys → R x y
      → AllZip R (take (length (ys ++ y ∷ [])) xs) (ys ++ y ∷ [])
  next-first [] x ys y is zips new = absurd (none-some x is)
  next-first (z ∷ xs) x [] y is zips new = (subst (λ (z : A). R z y) (sym (same_Some z x is)) new, tt)
  next-first (z ∷ xs) x (w ∷ ys) y is zips new = (zips.0, next-first xs x ys y is zips.1 new)

  -- one more is looked up, after those from an index on
  pub next-ahead : (place index : ℕ) (xs : List A) (x : A) (ys : List B) (y : B) → index ≡ place + length ys → slice_get xs index ≡ Some x
      → AllZip R (take (length ys) (drop place xs)) ys → R x y → AllZip R (take (length (ys ++ y ∷ [])) (drop place xs)) (ys ++ y ∷ [])
  next-ahead zero index xs x ys y index_is is zips new =
      let same : index ≡ length ys = omega arith in
      next-first xs x ys y (subst (λ (index : ℕ). slice_get xs index ≡ Some x) same is) zips new
  next-ahead (suc place) index [] x ys y index_is is zips new = absurd (none-some x is)
  next-ahead (suc place) zero (z ∷ xs) x ys y index_is is zips new = absurd (omega arith)
  next-ahead (suc place) (suc index) (z ∷ xs) x ys y index_is is zips new =
      next-ahead place index xs x ys y (omega arith) is zips new

  zip-there : (xs : List A) (ys : List B) (index : ℕ) (x : A) (y : B) → AllZip R (take (length ys) xs) ys → slice_get xs index ≡ Some x
      → slice_get ys index ≡ Some y → R x y
  zip-there [] ys index x y zips x_is y_is = absurd (none-some x x_is)
  zip-there (z ∷ xs) [] index x y zips x_is y_is = absurd (none-some y y_is)
  zip-there (z ∷ xs) (w ∷ ys) zero x y zips x_is y_is =
      subst (λ (z : A). R z y) (same_Some z x x_is) (subst (λ (w : B). R z w) (same_Some w y y_is) zips.0)
  zip-there (z ∷ xs) (w ∷ ys) (suc index) x y zips x_is y_is = zip-there xs ys index x y zips.1 x_is y_is

  -- what was looked up for a line, by its index and that of the first one
  pub ahead-there : (first place : ℕ) (xs : List A) (x : A) (ys : List B) (y : B) (index : ℕ) → place ≡ first + index
      → AllZip R (take (length ys) (drop first xs)) ys → slice_get xs place ≡ Some x → slice_get ys index ≡ Some y → R x y
  ahead-there zero place xs x ys y index place_is zips x_is y_is =
      let same : place ≡ index = omega (arith, place_is) in
      zip-there xs ys index x y zips (subst (λ (place : ℕ). slice_get xs place ≡ Some x) same x_is) y_is
  ahead-there (suc first) place [] x ys y index place_is zips x_is y_is = absurd (none-some x x_is)
  ahead-there (suc first) zero (z ∷ xs) x ys y index place_is zips x_is y_is = absurd (omega (arith, place_is))
  ahead-there (suc first) (suc place) (z ∷ xs) x ys y index place_is zips x_is y_is =
      ahead-there first place xs x ys y index (omega (arith, place_is)) zips x_is y_is

-- an index within a list has an element
pub there : {A B : Type 0} (now : A → B) (found : Option A) (all : List B) (index : ℕ) → option_map now found ≡ slice_get all index → index < length all
    → IsSome found
there now (Some found) all index is within = refl
there now None [] index is within = absurd (omega (arith, within))
there now None (first ∷ all) index is within =
    absurd (none-some (get_or (first ∷ all) index first) (is ∙ slice_get-get_or (first ∷ all) index first within))
