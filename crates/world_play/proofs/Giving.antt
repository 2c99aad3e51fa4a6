-- What is found in a reply.
use Rattle.std.proofs.Common.{◌≡◌, Bool, true, false, List, [], ◌∷◌, map, take, cond, refl, Some}
use Rattle.std.specs.Prelude.{option_map}
use Rattle.std.specs.List.{find, filter}
use Rattle.std.specs.Option.{option_to_list}

-- the first that passes is the first of those that pass
pub first_value : {X Y : Type 0} (test : X → Bool) (f : X → Y) (xs : List X)
    → take 1 (map f (filter test xs)) ≡ option_to_list (option_map f (find test xs))
first_value test f [] = refl
first_value test f (x ∷ xs) =
    elim (test x) as (λ passes. take 1 (map f (cond passes (x ∷ filter test xs) (filter test xs)))
    ≡ option_to_list (option_map f (cond passes (Some x) (find test xs)))) [
      | true ↦ refl
      | false ↦ first_value test f xs
    ]
