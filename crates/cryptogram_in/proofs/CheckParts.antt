-- The parts of checks, each in a list of its own.
use Rattle.std.proofs.Common.{◌≡◌, ℕ, suc, ◌<◌, ◌≤◌, List, [], ◌∷◌, ◌++◌, map, length, take, set, refl, ap, subst, arith, ◌+◌, ◌∙◌, length-set, get_or, drop, sym, append_assoc}
use Rattle.std.proofs.lemmas.List.{length-append, drop_more}
use Rattle.des_block.specs.declared.Key16.{Key16}
use Rattle.cryptogram_in.specs.Checks.{DesCheck, checks_from}

-- one more check
pub from-pushed : (keys : List Key16) (atcs : List ℕ) (inputs acs : List (List ℕ)) (key : Key16) (atc : ℕ) (input ac : List ℕ)
    → length inputs ≡ length atcs → length acs ≡ length atcs → length atcs < length keys
    → checks_from (set keys (length atcs) key) (atcs ++ atc ∷ []) (inputs ++ input ∷ []) (acs ++ ac ∷ [])
    ≡ checks_from keys atcs inputs acs ++ record { key = key; atc = atc; input = input; ac = ac } ∷ []
unfolding checks_from
from-pushed [] atcs inputs acs key atc input ac same_inputs same_acs room = absurd (omega (arith, room))
from-pushed (k ∷ keys) [] [] [] key atc input ac same_inputs same_acs room = refl
from-pushed (k ∷ keys) [] (x ∷ inputs) acs key atc input ac same_inputs same_acs room = absurd (omega (arith, same_inputs))
from-pushed (k ∷ keys) [] [] (y ∷ acs) key atc input ac same_inputs same_acs room = absurd (omega (arith, same_acs))
from-pushed (k ∷ keys) (a ∷ atcs) [] acs key atc input ac same_inputs same_acs room = absurd (omega (arith, same_inputs))
from-pushed (k ∷ keys) (a ∷ atcs) (x ∷ inputs) [] key atc input ac same_inputs same_acs room = absurd (omega (arith, same_acs))
from-pushed (k ∷ keys) (a ∷ atcs) (x ∷ inputs) (y ∷ acs) key atc input ac same_inputs same_acs room =
    ap (λ checks. record { key = k; atc = a; input = x; ac = y } ∷ checks)
    (from-pushed keys atcs inputs acs key atc input ac (omega (arith, same_inputs)) (omega (arith, same_acs)) (omega (arith, room)))

-- the parts are those of the checks
pub record ArePartsOf (keys : List Key16) (atcs : List ℕ) (inputs acs : List (List ℕ)) (checks : List DesCheck) : Type 0 where
  pub count : length checks ≡ length atcs
  pub keys_are : take (length atcs) keys ≡ map (λ check. check.key) checks
  pub atcs_are : atcs ≡ map (λ check. check.atc) checks
  pub inputs_are : inputs ≡ map (λ check. check.input) checks
  pub acs_are : acs ≡ map (λ check. check.ac) checks

pub are-parts : (keys : List Key16) (atcs : List ℕ) (inputs acs : List (List ℕ)) → length inputs ≡ length atcs → length acs ≡ length atcs
    → length atcs ≤ length keys → ArePartsOf keys atcs inputs acs (checks_from keys atcs inputs acs)
unfolding checks_from
are-parts [] [] [] [] same_inputs same_acs room = record { count = refl; keys_are = refl; atcs_are = refl; inputs_are = refl; acs_are = refl }
are-parts [] [] (x ∷ inputs) acs same_inputs same_acs room = absurd (omega (arith, same_inputs))
are-parts [] [] [] (y ∷ acs) same_inputs same_acs room = absurd (omega (arith, same_acs))
are-parts [] (a ∷ atcs) inputs acs same_inputs same_acs room = absurd (omega (arith, room))
are-parts (k ∷ keys) [] [] [] same_inputs same_acs room = record { count = refl; keys_are = refl; atcs_are = refl; inputs_are = refl; acs_are = refl }
are-parts (k ∷ keys) [] (x ∷ inputs) acs same_inputs same_acs room = absurd (omega (arith, same_inputs))
are-parts (k ∷ keys) [] [] (y ∷ acs) same_inputs same_acs room = absurd (omega (arith, same_acs))
are-parts (k ∷ keys) (a ∷ atcs) [] acs same_inputs same_acs room = absurd (omega (arith, same_inputs))
are-parts (k ∷ keys) (a ∷ atcs) (x ∷ inputs) [] same_inputs same_acs room = absurd (omega (arith, same_acs))
are-parts (k ∷ keys) (a ∷ atcs) (x ∷ inputs) (y ∷ acs) same_inputs same_acs room =
    let rest = are-parts keys atcs inputs acs (omega (arith, same_inputs)) (omega (arith, same_acs)) (omega (arith, room)) in
    record {
      count = ap suc rest.count;
      keys_are = ap (λ ks. k ∷ ks) rest.keys_are;
      atcs_are = ap (λ xs. a ∷ xs) rest.atcs_are;
      inputs_are = ap (λ xs. x ∷ xs) rest.inputs_are;
      acs_are = ap (λ xs. y ∷ xs) rest.acs_are;
    }

-- the lists of up to 128 checks are equally long
pub whole-parts : (keys : List Key16) (atcs : List ℕ) (inputs acs : List (List ℕ)) (checks : List DesCheck) → checks_from keys atcs inputs acs ≡ checks
    → (length atcs ≤ 128) × (length keys ≡ 128) × (length inputs ≡ length atcs) × (length acs ≡ length atcs) → ArePartsOf keys atcs inputs acs checks
whole-parts keys atcs inputs acs checks is whole =
    subst (ArePartsOf keys atcs inputs acs) is (are-parts keys atcs inputs acs whole.2 whole.3 (omega (arith, whole.0, whole.1)))

-- where there are fewer checks than 128, each list has room
pub room-left : (keys : List Key16) (atcs : List ℕ) (inputs acs : List (List ℕ)) (checks : List DesCheck) → checks_from keys atcs inputs acs ≡ checks
    → (length atcs ≤ 128) × (length keys ≡ 128) × (length inputs ≡ length atcs) × (length acs ≡ length atcs) → length checks < 128
    → (length atcs < 128) × (length inputs < 128) × (length acs < 128)
room-left keys atcs inputs acs checks is whole few =
    let count = (whole-parts keys atcs inputs acs checks is whole).count in
    (omega (arith, few, count), omega (arith, few, count, whole.2), omega (arith, few, count, whole.3))

-- one more check, as it is pushed to each list
pub from-added : (keys : List Key16) (atcs : List ℕ) (inputs acs : List (List ℕ)) (more : List ℕ) (more_inputs more_acs : List (List ℕ)) (n : ℕ)
    (check : DesCheck) (checks : List DesCheck) → checks_from keys atcs inputs acs ≡ checks
    → (length atcs ≤ 128) × (length keys ≡ 128) × (length inputs ≡ length atcs) × (length acs ≡ length atcs) → length atcs < 128
    → n ≡ length atcs → more ≡ atcs ++ check.atc ∷ [] → more_inputs ≡ inputs ++ check.input ∷ [] → more_acs ≡ acs ++ check.ac ∷ []
    → checks_from (set keys n check.key) more more_inputs more_acs ≡ checks ++ check ∷ []
from-added keys atcs inputs acs more more_inputs more_acs n check checks is whole room en em ei ea =
    rw (en, em, ei, ea)
    (from-pushed keys atcs inputs acs check.key check.atc check.input check.ac whole.2 whole.3 (omega (arith, whole.1, room))
    ∙ ap (λ checks. checks ++ check ∷ []) is)

-- and the lists are still equally long
pub whole-added : (keys : List Key16) (atcs : List ℕ) (inputs acs : List (List ℕ)) (more : List ℕ) (more_inputs more_acs : List (List ℕ)) (n : ℕ)
    (check : DesCheck) → (length atcs ≤ 128) × (length keys ≡ 128) × (length inputs ≡ length atcs) × (length acs ≡ length atcs) → length atcs < 128
    → more ≡ atcs ++ check.atc ∷ [] → more_inputs ≡ inputs ++ check.input ∷ [] → more_acs ≡ acs ++ check.ac ∷ []
    → (length more ≤ 128) × (length (set keys n check.key) ≡ 128) × (length more_inputs ≡ length more) × (length more_acs ≡ length more)
whole-added keys atcs inputs acs more more_inputs more_acs n check whole room em ei ea =
    let one_more : length more ≡ length atcs + 1 = ap length em ∙ length-append atcs (check.atc ∷ []) in
    let one_input : length more_inputs ≡ length inputs + 1 = ap length ei ∙ length-append inputs (check.input ∷ []) in
    let one_ac : length more_acs ≡ length acs + 1 = ap length ea ∙ length-append acs (check.ac ∷ []) in
    let inputs_too : length more_inputs ≡ length more = omega (arith, one_more, one_input, whole.2) in
    let acs_too : length more_acs ≡ length more = omega (arith, one_more, one_ac, whole.3) in
    (omega (arith, one_more, room), length-set keys n check.key ∙ whole.1, inputs_too, acs_too)

-- with no ATC there is no check
pub from-none : (keys : List Key16) (atcs : List ℕ) (inputs acs : List (List ℕ)) → atcs ≡ [] → checks_from keys atcs inputs acs ≡ []
unfolding checks_from
from-none keys atcs inputs acs none = ap (λ atcs. checks_from keys atcs inputs acs) none

-- one more result, of the next element
pub results-more : {A B : Type 0} (f : A → B) (xs : List A) (i : ℕ) (d : A) (ys zs : List B) (y : B) → ys ++ map f (drop i xs) ≡ map f xs → i < length xs
    → zs ≡ ys ++ y ∷ [] → y ≡ f (get_or xs i d) → zs ++ map f (drop (i + 1) xs) ≡ map f xs
results-more f xs i d ys zs y so_far below one_more is =
    rw (one_more, is) (append_assoc ys (f (get_or xs i d) ∷ []) (map f (drop (i + 1) xs)) ∙ sym (ap (λ rest. ys ++ map f rest) (drop_more xs i d below)) ∙ so_far)
