-- Elements of a list, and what holds of each.
use Rattle.std.proofs.Common.{◌≡◌, ◌⊎◌, Bool, true, List, [], ◌∷◌, ◌++◌, refl, sym, ap, subst, ◌∙◌, inl, inr, Some}
use Rattle.std.specs.List.{find}
use Rattle.std.proofs.lemmas.Bool.{cases_Bool, cond-true, cond-false}
use Rattle.std.proofs.lemmas.Option.{same_Some, none-some}

-- the value is an element of the list
abbrev pub Has : {X : Type 0} → List X → X → Type 0
Has [] x = ⊥
Has (first ∷ others) x = (x ≡ first) ⊎ Has others x

-- this holds of each element
abbrev pub Every : {X : Type 0} → (X → Type 0) → List X → Type 0
Every P [] = Unit {0}
Every P (x ∷ xs) = P x × Every P xs

-- ---- of two lists in a row

pub Every-append : {X : Type 0} (P : X → Type 0) (xs ys : List X) → Every P xs → Every P ys → Every P (xs ++ ys)
Every-append P [] ys all others = others
Every-append P (x ∷ xs) ys all others = (all.0, Every-append P xs ys all.1 others)

pub Every-from : {X : Type 0} (P : X → Type 0) (xs : List X) → ((x : X) → Has xs x → P x) → Every P xs
Every-from P [] each = tt
Every-from P (x ∷ xs) each = (each x (inl refl), Every-from P xs (λ y there. each y (inr there)))

pub Has-append : {X : Type 0} (xs ys : List X) (x : X) → Has (xs ++ ys) x → Has xs x ⊎ Has ys x
Has-append [] ys x there = inr there
Has-append (first ∷ xs) ys x (inl here) = inl (inl here)
Has-append (first ∷ xs) ys x (inr there) =
    elim (Has-append xs ys x there) [
      | inl front ↦ inl (inr front)
      | inr back ↦ inr back
    ]

-- ---- the first that passes a test

pub find-has : {X : Type 0} (test : X → Bool) (xs : List X) (x : X) → find test xs ≡ Some x
    → Has xs x × (test x ≡ true)
find-has test [] x found = absurd (none-some x found)
find-has test (first ∷ xs) x found =
    elim (cases_Bool (test first)) [
      | inl here ↦
          let same : first ≡ x = same_Some first x (sym (cond-true (test first) _ _ here) ∙ found) in
          (inl (sym same), ap test (sym same) ∙ here)
      | inr apart ↦
          let rest = find-has test xs x (sym (cond-false (test first) _ _ apart) ∙ found) in
          (inr rest.0, rest.1)
    ]

pub find-some : {X : Type 0} (test : X → Bool) (xs : List X) (x : X) → Has xs x → test x ≡ true
    → (y : X) × (find test xs ≡ Some y)
find-some test [] x there passes = absurd there
find-some test (first ∷ xs) x (inl here) passes =
    (first, cond-true (test first) _ _ (ap test (sym here) ∙ passes))
find-some test (first ∷ xs) x (inr there) passes =
    elim (cases_Bool (test first)) [
      | inl here ↦ (first, cond-true (test first) _ _ here)
      | inr apart ↦
          let rest = find-some test xs x there passes in
          (rest.0, cond-false (test first) _ _ apart ∙ rest.1)
    ]

pub Every-at : {X : Type 0} (P : X → Type 0) (xs : List X) (x : X) → Every P xs → Has xs x → P x
Every-at P [] x all there = absurd there
Every-at P (first ∷ xs) x all (inl here) = subst P (sym here) all.0
Every-at P (first ∷ xs) x all (inr there) = Every-at P xs x all.1 there

pub Has-left : {X : Type 0} (xs ys : List X) (x : X) → Has xs x → Has (xs ++ ys) x
Has-left [] ys x there = absurd there
Has-left (first ∷ xs) ys x (inl here) = inl here
Has-left (first ∷ xs) ys x (inr there) = inr (Has-left xs ys x there)

pub Has-right : {X : Type 0} (xs ys : List X) (x : X) → Has ys x → Has (xs ++ ys) x
Has-right [] ys x there = there
Has-right (first ∷ xs) ys x there = inr (Has-right xs ys x there)
