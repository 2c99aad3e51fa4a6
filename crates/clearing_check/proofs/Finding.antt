-- An element is found where there is one.
use Rattle.std.proofs.Common.{◌≡◌, Bool, List, [], ◌∷◌, refl, inl, inr}
use Rattle.std.specs.Prelude.{is_some}
use Rattle.std.specs.List.{find, list_any}
use Rattle.std.proofs.lemmas.Bool.{cases_Bool}

pub is_some-find : {X : Type 0} (test : X → Bool) (xs : List X) → is_some (find test xs) ≡ list_any test xs
is_some-find test [] = refl
is_some-find test (x ∷ xs) =
    elim (cases_Bool (test x)) [
      | inl here ↦ rw here refl
      | inr apart ↦ rw apart (is_some-find test xs)
    ]
