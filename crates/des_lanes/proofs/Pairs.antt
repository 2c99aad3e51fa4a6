-- Arrays of pairs, filled one after another, and the bits of a lane in them.
use Rattle.std.proofs.Common.{◌≡◌, ℕ, zero, suc, ◌+◌, ◌-◌, ◌%◌, ◌<◌, ◌≤◌, ◌==◌, ◌≢◌, Bool, false, List, [], ◌∷◌, set}
use Rattle.std.proofs.Common.{length, map, get_or, bit_and, refl, sym, ap, ◌∙◌, arith}
use Rattle.std.proofs.Common.{get_or-set_same, get_or-set_other, length-set, below_more}
use Rattle.std.specs.List.{range_with_len}
use Rattle.std.proofs.lemmas.List.{length-map, get_or-map}
use Rattle.std.proofs.lemmas.List.FromFn.{fill_by_all, get_or-map-range_with_len}
use Rattle.std.proofs.lemmas.Nat.Bits.{bit_at-zero}
use Rattle.des_block.specs.Bits.{xor_bits}
use Rattle.des_lanes.specs.Lanes.{lane_bit, lane_bits, bits_at}
use mathlib.Core.Bool.{xor}

lane_bit-none : (lane : ℕ) → lane_bit lane [] ≡ false
unfolding lane_bit
lane_bit-none lane = ap (λ r. r == 1) (bit_at-zero (63 - lane % 64))

-- a lane's bit of a pair in an array, also past its end
pub lane-at : (lane : ℕ) (pairs : List (List ℕ)) (i : ℕ) → lane_bit lane (get_or pairs i []) ≡ get_or (lane_bits lane pairs) i false
unfolding lane_bits
lane-at lane [] i = lane_bit-none lane
lane-at lane (p ∷ pairs) zero = refl
lane-at lane (p ∷ pairs) (suc i) = lane-at lane pairs i

-- functions with the same table
pub agree_below : (f g : ℕ → Bool) (n : ℕ) → map f (range_with_len 0 n) ≡ map g (range_with_len 0 n) → (x : ℕ) → x < n → f x ≡ g x
agree_below f g n e x h =
    sym (get_or-map-range_with_len f 0 n x x false h (omega arith)) ∙ ap (λ xs. get_or xs x false) e ∙ get_or-map-range_with_len g 0 n x x false h (omega arith)

pub lane-length : (lane : ℕ) (pairs : List (List ℕ)) → length (lane_bits lane pairs) ≡ length pairs
unfolding lane_bits
lane-length lane pairs = length-map pairs (lane_bit lane)

-- a list as the table of its entries
pub tabulated : {A : Type 0} (d : A) (xs : List A) (n : ℕ) → length xs ≡ n → xs ≡ map (λ i. get_or xs i d) (range_with_len 0 n)
tabulated d xs n len = fill_by_all (λ i. get_or xs i d) xs n d len (λ k h. refl)

pub xor_bits-map : {A : Type 0} (f g : A → Bool) (xs : List A) → map (λ x. xor (f x) (g x)) xs ≡ xor_bits (map f xs) (map g xs)
unfolding xor_bits
xor_bits-map f g [] = refl
xor_bits-map f g (x ∷ xs) = ap (λ r. xor (f x) (g x) ∷ r) (xor_bits-map f g xs)

-- the first i of n pairs have these bits
pub record Fills (f : ℕ → ℕ → Bool) (n i : ℕ) (pairs : List (List ℕ)) : Type 0 where
  pub len : length pairs ≡ n
  pub at : (lane k : ℕ) → k < i → lane_bit lane (get_or pairs k []) ≡ f lane k

pub Fills_none : (f : ℕ → ℕ → Bool) (n : ℕ) (pairs : List (List ℕ)) → length pairs ≡ n → Fills f n 0 pairs
Fills_none f n pairs len = record { len = len; at = λ lane k h. absurd (omega arith) }

pub Fills_more : (f : ℕ → ℕ → Bool) (n i : ℕ) (pairs : List (List ℕ)) (next : List ℕ) → Fills f n i pairs → i < n
    → ((lane : ℕ) → lane_bit lane next ≡ f lane i) → Fills f n (i + 1) (set pairs i next)
Fills_more f n i pairs next done h is = record {
  len = length-set pairs i next ∙ done.len;
  at = λ lane. below_more _ _
      (λ k below. let ne : k ≢ i = omega arith in ap (lane_bit lane) (get_or-set_other pairs i k next [] ne) ∙ done.at lane k below)
      (ap (lane_bit lane) (get_or-set_same pairs i next [] (omega (arith, done.len))) ∙ is lane);
}

pub Fills_all : (f : ℕ → ℕ → Bool) (n : ℕ) (pairs : List (List ℕ)) → Fills f n n pairs → (lane : ℕ) → lane_bits lane pairs ≡ map (f lane) (range_with_len 0 n)
unfolding lane_bits
Fills_all f n pairs done lane =
    fill_by_all (f lane) (map (lane_bit lane) pairs) n false (length-map pairs (lane_bit lane) ∙ done.len)
    (λ k h. sym (lane-at lane pairs k) ∙ done.at lane k h)

-- the first i of n pairs have these bits, and the others are as they were
pub record Changes (f : ℕ → ℕ → Bool) (old : List (List ℕ)) (n i : ℕ) (pairs : List (List ℕ)) : Type 0 where
  pub fills : Fills f n i pairs
  pub rest : (k : ℕ) → i ≤ k → get_or pairs k [] ≡ get_or old k []

pub Changes_none : (f : ℕ → ℕ → Bool) (old : List (List ℕ)) (n : ℕ) → length old ≡ n → Changes f old n 0 old
Changes_none f old n len = record { fills = Fills_none f n old len; rest = λ k h. refl }

pub Changes_more : (f : ℕ → ℕ → Bool) (old : List (List ℕ)) (n i : ℕ) (pairs : List (List ℕ)) (next : List ℕ) → Changes f old n i pairs → i < n
    → ((lane : ℕ) → lane_bit lane next ≡ f lane i) → Changes f old n (i + 1) (set pairs i next)
Changes_more f old n i pairs next done h is = record {
  fills = Fills_more f n i pairs next done.fills h is;
  rest = λ k above.
      let other : k ≢ i = omega arith in
      get_or-set_other pairs i k next [] other ∙ done.rest k (omega arith);
}

-- the bits at the places of a table
unfoldable pub bit_at_place : List ℕ → List Bool → ℕ → Bool
bit_at_place places bs k = get_or bs (bit_and (get_or places k 0) 63) false

pub bits_at_is : (places : List ℕ) (bs : List Bool) (n : ℕ) → length places ≡ n → map (bit_at_place places bs) (range_with_len 0 n) ≡ bits_at places bs
unfolding bit_at_place bits_at
bits_at_is places bs n len =
    let f : ℕ → Bool = λ place. get_or bs (bit_and place 63) false in
    sym (fill_by_all (λ k. f (get_or places k 0)) (map f places) n false (length-map places f ∙ len)
    (λ k h. get_or-map f places k 0 false (omega (arith, len))))
