-- Lists of values that are moved in and out of slots.
use Rattle.std.proofs.Common.{◌≡◌, ℕ, zero, suc, ◌+◌, ◌<◌, List, [], ◌∷◌, ◌++◌, map, length, set, get_or, take, All, Bool, false, Option, Some, IsSome}
use Rattle.std.proofs.Common.{refl, sym, ap, ◌∙◌, subst, arith}
use Rattle.std.proofs.lemmas.List.{take_more}
use mathlib.Core.Option.{some, some-injective, some-ne-none}
use lib.ListN.{get_elem?}
use Rattle.shared_seats.proofs.Totals.{map-snoc}

pub at_get : {A : Type 0} (xs : List A) (i : ℕ) (x d : A) → get_elem? xs i ≡ some x → get_or xs i d ≡ x
at_get [] i x d e = absurd (some-ne-none x (sym e))
at_get (z ∷ zs) zero x d e = some-injective z x e
at_get (z ∷ zs) (suc i) x d e = at_get zs i x d e

pub at_below : {A : Type 0} (xs : List A) (i : ℕ) (x : A) → get_elem? xs i ≡ some x → i < length xs
at_below [] i x e = absurd (some-ne-none x (sym e))
at_below (z ∷ zs) zero x e = omega arith
at_below (z ∷ zs) (suc i) x e = omega (arith, at_below zs i x e)

pub all_at : {A : Type 0} (P : A → Type 0) (xs : List A) (i : ℕ) (x : A) → All P xs → get_elem? xs i ≡ some x → P x
all_at P xs i x all e = subst P (at_get xs i x x e) (all i x (at_below xs i x e))

pub values_more : {V : Type 0} (xs : List V) (x : V) (slot : Option V) (items : List (Option V)) (i : ℕ) → map Some xs ≡ take i items
    → get_elem? items i ≡ some slot → slot ≡ Some x → map Some (xs ++ x ∷ []) ≡ take (i + 1) items
values_more {V} xs x slot items i before e is =
    let more : take (i + 1) items ≡ take i items ++ get_or items i slot ∷ [] = take_more items i slot (at_below items i slot e) in
    let last : get_or items i slot ≡ Some x = at_get items i slot slot e ∙ is in
    map-snoc Some xs x ∙ (λ k. before k ++ Some x ∷ []) ∙ sym (more ∙ ap (λ (y : Option V). take i items ++ y ∷ []) last)

pub filled-none : (fs : List Bool) (i : ℕ) → get_or (set fs i false) i false ≡ false
filled-none [] i = refl
filled-none (f ∷ fs) zero = refl
filled-none (f ∷ fs) (suc i) = filled-none fs i

pub all_some : {V : Type 0} (xs : List V) → All IsSome (map Some xs)
all_some [] k d below = absurd (omega arith)
all_some (x ∷ xs) zero d below = refl
all_some (x ∷ xs) (suc k) d below = all_some xs k d (omega arith)

pub same_values : {V : Type 0} (xs ys : List V) → map Some xs ≡ map Some ys → xs ≡ ys
same_values [] [] e = refl
same_values [] (y ∷ ys) e = absurd (cc)
same_values (x ∷ xs) [] e = absurd (cc)
same_values (x ∷ xs) (y ∷ ys) e =
    let rest : map Some xs ≡ map Some ys = cc in
    let more : xs ≡ ys = same_values xs ys rest in
    let same : x ≡ y = cc in
    cc
