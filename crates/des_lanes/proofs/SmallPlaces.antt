-- Places of a block of 64 bits.
use Rattle.std.proofs.Common.{◌≡◌, ℕ, ◌<◌, ◌==◌, zero, suc, true, List, [], ◌∷◌, bit_and, All, length, get_or, refl, arith, nat_lt}
use Rattle.std.proofs.lemmas.Bool.{eqb-true, ltb-true, and_parts}
use Rattle.std.specs.List.{list_all}
use Rattle.des_lanes.proofs.Pairs.{agree_below}

-- a place is itself modulo 64
pub and_place : (place : ℕ) → place < 64 → place ≡ bit_and place 63
and_place place small =
    let same : (place == bit_and place 63) ≡ true = agree_below (λ n. n == bit_and n 63) (λ n. true) 64 refl place small in
    eqb-true place (bit_and place 63) same

small-at : (places : List ℕ) → list_all (λ place. nat_lt place 64) places ≡ true → (i d : ℕ) → i < length places → get_or places i d < 64
small-at [] are i d below = absurd (omega (arith, below))
small-at (place ∷ rest) are zero d below = ltb-true place 64 (and_parts _ _ are).0
small-at (place ∷ rest) are (suc i) d below = small-at rest (and_parts _ _ are).1 i d (omega (arith, below))

-- where a test finds all rows' places small, they are
pub small-rows : (rows : List (List ℕ)) → list_all (λ places. list_all (λ place. nat_lt place 64) places) rows ≡ true
    → All (λ places. All (λ place. place < 64) places) rows
small-rows [] are i d below = absurd (omega (arith, below))
small-rows (places ∷ rest) are zero d below = small-at places (and_parts _ _ are).0
small-rows (places ∷ rest) are (suc i) d below = small-rows rest (and_parts _ _ are).1 i d (omega (arith, below))
