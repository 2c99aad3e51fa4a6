-- The account numbers of the cards.
use Rattle.std.proofs.Common.{◌≡◌, ◌+◌, ◌/◌, ◌%◌, ℕ, true, List, ◌∷◌, [], ◌++◌, map, refl, sym, subst, ap₂, ◌∙◌, arith, Some, get_or}
use Rattle.std.specs.Prelude.{nat_le, replicate, ◌==◌, if◌then◌else◌}
use Rattle.std.specs.List.{range_with_len}
use Rattle.std.proofs.lemmas.List.FromFn.{map-range_with_len_more}
use Rattle.issuer_base.specs.declared.answer.Method.{Method}
use Rattle.issuer_base.specs.declared.answer.Method.TheVariants.{One, Two}
use Rattle.issuer_setup.specs.declared.card.CardInfo.{CardInfo}
use Rattle.std.proofs.lemmas.Bool.{le-leb}
use Rattle.issuer_base.specs.CardNumber.{is_pan, pan_from}
use Rattle.world_play.specs.Setting.{six_digits, card_info}

-- a digit is at most 9
below-ten : (n : ℕ) → nat_le (n % 10) 9 ≡ true
below-ten n = le-leb (n % 10) 9 (omega arith)

-- the number of each card is an account number
pub number_pan : (n : ℕ) → pan_from (4 ∷ replicate 9 0 ++ six_digits n) ≡ Some (4 ∷ replicate 9 0 ++ six_digits n)
unfolding pan_from is_pan
number_pan n =
    rw (below-ten (n / 100000), below-ten (n / 10000), below-ten (n / 1000), below-ten (n / 100), below-ten (n / 10), below-ten n) refl

-- it is the one of the digits as they are put into a row
pub digits_pan : (n : ℕ) (digits : List ℕ) → digits ≡ six_digits n
    → pan_from (4 ∷ 0 ∷ 0 ∷ 0 ∷ 0 ∷ 0 ∷ 0 ∷ 0 ∷ 0 ∷ 0 ∷ get_or digits 0 0 ∷ get_or digits 1 0 ∷ get_or digits 2 0 ∷ get_or digits 3 0
    ∷ get_or digits 4 0 ∷ get_or digits 5 0 ∷ [])
    ≡ Some (4 ∷ replicate 9 0 ++ six_digits n)
digits_pan n digits is =
    subst (λ (digits : List ℕ). pan_from (4 ∷ 0 ∷ 0 ∷ 0 ∷ 0 ∷ 0 ∷ 0 ∷ 0 ∷ 0 ∷ 0 ∷ get_or digits 0 0 ∷ get_or digits 1 0 ∷ get_or digits 2 0 ∷ get_or digits 3 0
    ∷ get_or digits 4 0 ∷ get_or digits 5 0 ∷ [])
    ≡ Some (4 ∷ replicate 9 0 ++ six_digits n)) (sym is) (number_pan n)

-- so the card is the one with this number
pub info_is : (n : ℕ) (pan : List ℕ) (method : Method) → pan ≡ 4 ∷ replicate 9 0 ++ six_digits n → method ≡ (if n % 2 == 0 then One else Two)
    → record { pan = pan; psn = 0; method = method } ≡ card_info n
info_is n pan method number by =
    ap₂ (λ (pan : List ℕ) (method : Method). let info : CardInfo = record { pan = pan; psn = 0; method = method } in info) number by

-- one more of a row of numbered things
pub made_more : {X : Type 0} (f : ℕ → X) (n : ℕ) (xs : List X) (x : X) → xs ≡ map f (range_with_len 0 n) → x ≡ f n
    → xs ++ x ∷ [] ≡ map f (range_with_len 0 (n + 1))
made_more f n xs x so_far is = ap₂ (λ front last. front ++ last ∷ []) so_far is ∙ sym (map-range_with_len_more f 0 n n (omega arith))
