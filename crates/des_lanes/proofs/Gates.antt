-- Circuits of and, or, xor and not, on pairs of words and on the bits of a lane.
use Rattle.std.proofs.Common.{◌≡◌, ℕ, zero, suc, ◌+◌, ◌-◌, ◌/◌, ◌%◌, ◌^◌, ◌<◌, ◌==◌, ◌&&◌, ◌||◌, Bool, true, false, List, [], ◌∷◌}
use Rattle.std.proofs.Common.{length, map, get_or, bit_and, bit_or, bit_xor, min, max, refl, sym, ap, ap₂, ◌∙◌, arith, mod-lt}
use Rattle.std.proofs.Common.{Fits, w64}
use Rattle.std.specs.Int.{bit_not}
use lib.Lanes.{zip2, Each1}
use Rattle.std.proofs.lemmas.Nat.{or_lt, xor_lt}
use Rattle.std.specs.Int.Bits.{and_lt}
use Rattle.std.proofs.lemmas.Nat.Bits.{bit_at_and, bit_at_or, bit_at_xor, bit_at_not, bit_at-lt, bit_at-zero}
use Rattle.std.proofs.lemmas.Bool.{and_parts}
use Rattle.std.proofs.lemmas.List.{length-map}
use Rattle.std.proofs.lemmas.Simd.{get_or-zip2, length-zip2, Each1-get_or}
use Rattle.des_block.specs.Cipher.{box_output}
use Rattle.des_block.proofs.Digits.{below_two}
use Rattle.des_lanes.specs.Lanes.{lane_bit, lane_bits}
use mathlib.Core.Bool.{xor, not}

-- two words of 64 bits
pub record IsPair (pair : List ℕ) : Type 0 where
  pub len : length pair ≡ 2
  pub fits : (i : ℕ) → i < 2 → get_or pair i 0 < 2 ^ 64

pub IsPair-from : (pair : List ℕ) → (length pair ≡ 2) × Each1 (Fits w64) pair → IsPair pair
IsPair-from pair told = record {
  len = told.0;
  fits = λ i h. (Each1-get_or (Fits w64) pair i 0 (omega (arith, told.0)) told.1).fits;
}

-- ---- a gate on pairs, at a lane

word_of : ℕ → ℕ
word_of lane = lane / 64 % 2

word_of-lt : (lane : ℕ) → word_of lane < 2
unfolding word_of
word_of-lt lane = mod-lt (lane / 64) (omega arith)

two_bits : (P : ℕ → ℕ → Type 0) → P 0 0 → P 0 1 → P 1 0 → P 1 1 → (a b : ℕ) → a < 2 → b < 2 → P a b
two_bits P p q r s a b ha hb =
    below_two (λ x. P x b) (below_two (P 0) p q b hb) (below_two (P 1) r s b hb) a ha

word-zip2 : (f : ℕ → ℕ → ℕ) (a b : List ℕ) → IsPair a → IsPair b → (i : ℕ) → i < 2 → get_or (zip2 f a b) i 0 ≡ f (get_or a i 0) (get_or b i 0)
word-zip2 f a b p q i h = get_or-zip2 f a b i 0 0 0 (omega (arith, p.len)) (omega (arith, q.len))

pub lane-and : (lane : ℕ) (a b : List ℕ) → IsPair a → IsPair b → lane_bit lane (zip2 bit_and a b) ≡ lane_bit lane a && lane_bit lane b
unfolding lane_bit word_of
lane-and lane a b p q =
    let i : ℕ = word_of lane in
    let j : ℕ = 63 - lane % 64 in
    let x : ℕ = get_or a i 0 in
    let y : ℕ = get_or b i 0 in
    ap (λ w. w / 2 ^ j % 2 == 1) (word-zip2 bit_and a b p q i (word_of-lt lane)) ∙ ap (λ r. r == 1) (bit_at_and x y j)
    ∙ two_bits (λ r s. (min r s == 1) ≡ (r == 1) && (s == 1)) refl refl refl refl (x / 2 ^ j % 2) (y / 2 ^ j % 2) (bit_at-lt x j) (bit_at-lt y j)

pub lane-or : (lane : ℕ) (a b : List ℕ) → IsPair a → IsPair b → lane_bit lane (zip2 bit_or a b) ≡ lane_bit lane a || lane_bit lane b
unfolding lane_bit word_of
lane-or lane a b p q =
    let i : ℕ = word_of lane in
    let j : ℕ = 63 - lane % 64 in
    let x : ℕ = get_or a i 0 in
    let y : ℕ = get_or b i 0 in
    ap (λ w. w / 2 ^ j % 2 == 1) (word-zip2 bit_or a b p q i (word_of-lt lane)) ∙ ap (λ r. r == 1) (bit_at_or x y j)
    ∙ two_bits (λ r s. (max r s == 1) ≡ (r == 1) || (s == 1)) refl refl refl refl (x / 2 ^ j % 2) (y / 2 ^ j % 2) (bit_at-lt x j) (bit_at-lt y j)

pub lane-xor : (lane : ℕ) (a b : List ℕ) → IsPair a → IsPair b → lane_bit lane (zip2 bit_xor a b) ≡ xor (lane_bit lane a) (lane_bit lane b)
unfolding lane_bit word_of mathlib.Core.Bool.xor
lane-xor lane a b p q =
    let i : ℕ = word_of lane in
    let j : ℕ = 63 - lane % 64 in
    let x : ℕ = get_or a i 0 in
    let y : ℕ = get_or b i 0 in
    ap (λ w. w / 2 ^ j % 2 == 1) (word-zip2 bit_xor a b p q i (word_of-lt lane)) ∙ ap (λ r. r == 1) (bit_at_xor x y j)
    ∙ two_bits (λ r s. ((r + s) % 2 == 1) ≡ xor (r == 1) (s == 1)) refl refl refl refl (x / 2 ^ j % 2) (y / 2 ^ j % 2) (bit_at-lt x j) (bit_at-lt y j)

word-not : (pair : List ℕ) (i : ℕ) → IsPair pair → i < 2 → get_or (map (bit_not w64) pair) i 0 ≡ bit_not w64 (get_or pair i 0)
word-not [] i p h = absurd (omega (arith, p.len))
word-not (x ∷ []) i p h = absurd (omega (arith, p.len))
word-not (x ∷ y ∷ []) i p h = below_two (λ k. get_or (map (bit_not w64) (x ∷ y ∷ [])) k 0 ≡ bit_not w64 (get_or (x ∷ y ∷ []) k 0)) refl refl i h
word-not (x ∷ y ∷ z ∷ rest) i p h = absurd (omega (arith, p.len))

pub lane-not : (lane : ℕ) (a : List ℕ) → IsPair a → lane_bit lane (map (bit_not w64) a) ≡ not (lane_bit lane a)
unfolding lane_bit word_of
lane-not lane a p =
    let i : ℕ = word_of lane in
    let j : ℕ = 63 - lane % 64 in
    let x : ℕ = get_or a i 0 in
    ap (λ w. w / 2 ^ j % 2 == 1) (word-not a i p (word_of-lt lane)) ∙ ap (λ r. r == 1) (bit_at_not w64 x j (p.fits i (word_of-lt lane)) (omega arith))
    ∙ below_two (λ r. (1 - r == 1) ≡ not (r == 1)) refl refl (x / 2 ^ j % 2) (bit_at-lt x j)

pub IsPair-zip2 : (f : ℕ → ℕ → ℕ) → ((x y : ℕ) → x < 2 ^ 64 → y < 2 ^ 64 → f x y < 2 ^ 64) → (a b : List ℕ) → IsPair a → IsPair b → IsPair (zip2 f a b)
IsPair-zip2 f keeps a b p q = record {
  len = length-zip2 f a b (p.len ∙ sym q.len) ∙ p.len;
  fits = λ i h. rw (word-zip2 f a b p q i h) (keeps (get_or a i 0) (get_or b i 0) (p.fits i h) (q.fits i h));
}

pub IsPair-not : (a : List ℕ) → IsPair a → IsPair (map (bit_not w64) a)
IsPair-not a p = record {
  len = length-map a (bit_not w64) ∙ p.len;
  fits = λ i h. rw (word-not a i p h) (omega arith);
}

-- ---- circuits

pub data Gate : Type 0 where
  Input : ℕ → Gate
  Not : Gate → Gate
  And : Gate → Gate → Gate
  Or : Gate → Gate → Gate
  Xor : Gate → Gate → Gate

-- what a gate gives of pairs of words
unfoldable pub on_pairs : List (List ℕ) → Gate → List ℕ
on_pairs pairs (Input i) = get_or pairs i (0 ∷ 0 ∷ [])
on_pairs pairs (Not g) = map (bit_not w64) (on_pairs pairs g)
on_pairs pairs (And g h) = zip2 bit_and (on_pairs pairs g) (on_pairs pairs h)
on_pairs pairs (Or g h) = zip2 bit_or (on_pairs pairs g) (on_pairs pairs h)
on_pairs pairs (Xor g h) = zip2 bit_xor (on_pairs pairs g) (on_pairs pairs h)

-- what it gives of bits
unfoldable pub on_bits : List Bool → Gate → Bool
on_bits bs (Input i) = get_or bs i false
on_bits bs (Not g) = not (on_bits bs g)
on_bits bs (And g h) = on_bits bs g && on_bits bs h
on_bits bs (Or g h) = on_bits bs g || on_bits bs h
on_bits bs (Xor g h) = xor (on_bits bs g) (on_bits bs h)

IsPair-gate : (pairs : List (List ℕ)) (g : Gate) → ((i : ℕ) → IsPair (get_or pairs i (0 ∷ 0 ∷ []))) → IsPair (on_pairs pairs g)
unfolding on_pairs
IsPair-gate pairs (Input i) all = all i
IsPair-gate pairs (Not g) all = IsPair-not (on_pairs pairs g) (IsPair-gate pairs g all)
IsPair-gate pairs (And g h) all =
    IsPair-zip2 bit_and (λ x y p q. and_lt 64 x y p q) (on_pairs pairs g) (on_pairs pairs h) (IsPair-gate pairs g all) (IsPair-gate pairs h all)
IsPair-gate pairs (Or g h) all =
    IsPair-zip2 bit_or (λ x y p q. or_lt 64 x y p q) (on_pairs pairs g) (on_pairs pairs h) (IsPair-gate pairs g all) (IsPair-gate pairs h all)
IsPair-gate pairs (Xor g h) all =
    IsPair-zip2 bit_xor (λ x y p q. xor_lt 64 x y p q) (on_pairs pairs g) (on_pairs pairs h) (IsPair-gate pairs g all) (IsPair-gate pairs h all)

pub lane_bit-zero : (lane : ℕ) → lane_bit lane (0 ∷ 0 ∷ []) ≡ false
unfolding lane_bit
lane_bit-zero lane =
    let j : ℕ = 63 - lane % 64 in
    ap (λ w. w / 2 ^ j % 2 == 1) (below_two (λ i. get_or {A = ℕ} (0 ∷ 0 ∷ []) i 0 ≡ 0) refl refl (lane / 64 % 2) (mod-lt (lane / 64) (omega arith)))
    ∙ ap (λ r. r == 1) (bit_at-zero j)

lane-input : (lane : ℕ) (pairs : List (List ℕ)) (i : ℕ) → lane_bit lane (get_or pairs i (0 ∷ 0 ∷ [])) ≡ get_or (lane_bits lane pairs) i false
unfolding lane_bits
lane-input lane [] i = lane_bit-zero lane
lane-input lane (p ∷ pairs) zero = refl
lane-input lane (p ∷ pairs) (suc i) = lane-input lane pairs i

-- a gate works in each lane by itself
lane-gate : (lane : ℕ) (pairs : List (List ℕ)) (g : Gate) → ((i : ℕ) → IsPair (get_or pairs i (0 ∷ 0 ∷ [])))
    → lane_bit lane (on_pairs pairs g) ≡ on_bits (lane_bits lane pairs) g
unfolding on_pairs on_bits
lane-gate lane pairs (Input i) all = lane-input lane pairs i
lane-gate lane pairs (Not g) all = lane-not lane (on_pairs pairs g) (IsPair-gate pairs g all) ∙ ap not (lane-gate lane pairs g all)
lane-gate lane pairs (And g h) all =
    lane-and lane (on_pairs pairs g) (on_pairs pairs h) (IsPair-gate pairs g all) (IsPair-gate pairs h all)
    ∙ ap₂ (λ x y. x && y) (lane-gate lane pairs g all) (lane-gate lane pairs h all)
lane-gate lane pairs (Or g h) all =
    lane-or lane (on_pairs pairs g) (on_pairs pairs h) (IsPair-gate pairs g all) (IsPair-gate pairs h all)
    ∙ ap₂ (λ x y. x || y) (lane-gate lane pairs g all) (lane-gate lane pairs h all)
lane-gate lane pairs (Xor g h) all =
    lane-xor lane (on_pairs pairs g) (on_pairs pairs h) (IsPair-gate pairs g all) (IsPair-gate pairs h all)
    ∙ ap₂ xor (lane-gate lane pairs g all) (lane-gate lane pairs h all)

lane-circuit : (lane : ℕ) (pairs : List (List ℕ)) (gates : List Gate) → ((i : ℕ) → IsPair (get_or pairs i (0 ∷ 0 ∷ [])))
    → lane_bits lane (map (on_pairs pairs) gates) ≡ map (on_bits (lane_bits lane pairs)) gates
unfolding lane_bits
lane-circuit lane pairs [] all = refl
lane-circuit lane pairs (g ∷ gates) all = ap₂ (λ b bs. b ∷ bs) (lane-gate lane pairs g all) (lane-circuit lane pairs gates all)

-- ---- a circuit against a table

unfoldable pub same_bit : Bool → Bool → Bool
same_bit true b = b
same_bit false b = not b

unfoldable pub same_bits : List Bool → List Bool → Bool
same_bits [] [] = true
same_bits [] (y ∷ ys) = false
same_bits (x ∷ xs) [] = false
same_bits (x ∷ xs) (y ∷ ys) = same_bit x y && same_bits xs ys

same_bit-true : (x y : Bool) → same_bit x y ≡ true → x ≡ y
unfolding same_bit
same_bit-true true y e = sym e
same_bit-true false true e = e
same_bit-true false false e = refl

same_bits-true : (xs ys : List Bool) → same_bits xs ys ≡ true → xs ≡ ys
unfolding same_bits
same_bits-true [] [] e = refl
same_bits-true [] (y ∷ ys) e = absurd (cc)
same_bits-true (x ∷ xs) [] e = absurd (cc)
same_bits-true (x ∷ xs) (y ∷ ys) e =
    let parts = and_parts (same_bit x y) (same_bits xs ys) e in
    ap₂ (λ b bs. b ∷ bs) (same_bit-true x y parts.0) (same_bits-true xs ys parts.1)

-- two functions of n bits agree on all of them
unfoldable pub agree : ℕ → (List Bool → List Bool) → (List Bool → List Bool) → Bool
agree zero f g = same_bits (f []) (g [])
agree (suc n) f g = agree n (λ bs. f (false ∷ bs)) (λ bs. g (false ∷ bs)) && agree n (λ bs. f (true ∷ bs)) (λ bs. g (true ∷ bs))

pub agree-at : (n : ℕ) (f g : List Bool → List Bool) → agree n f g ≡ true → (bs : List Bool) → length bs ≡ n → f bs ≡ g bs
unfolding agree
agree-at zero f g e [] len = same_bits-true (f []) (g []) e
agree-at zero f g e (b ∷ bs) len = absurd (omega (arith, len))
agree-at (suc n) f g e [] len = absurd (omega (arith, len))
agree-at (suc n) f g e (false ∷ bs) len =
    agree-at n (λ bs. f (false ∷ bs)) (λ bs. g (false ∷ bs)) (and_parts _ _ e).0 bs (omega (arith, len))
agree-at (suc n) f g e (true ∷ bs) len =
    agree-at n (λ bs. f (true ∷ bs)) (λ bs. g (true ∷ bs)) (and_parts _ _ e).1 bs (omega (arith, len))

six_pairs : (a b c d e f : List ℕ) → IsPair a → IsPair b → IsPair c → IsPair d → IsPair e → IsPair f
    → (i : ℕ) → IsPair (get_or (a ∷ b ∷ c ∷ d ∷ e ∷ f ∷ []) i (0 ∷ 0 ∷ []))
six_pairs a b c d e f pa pb pc pd pe pf zero = pa
six_pairs a b c d e f pa pb pc pd pe pf (suc zero) = pb
six_pairs a b c d e f pa pb pc pd pe pf (suc (suc zero)) = pc
six_pairs a b c d e f pa pb pc pd pe pf (suc (suc (suc zero))) = pd
six_pairs a b c d e f pa pb pc pd pe pf (suc (suc (suc (suc zero)))) = pe
six_pairs a b c d e f pa pb pc pd pe pf (suc (suc (suc (suc (suc zero))))) = pf
six_pairs a b c d e f pa pb pc pd pe pf (suc (suc (suc (suc (suc (suc i)))))) = record {
  len = refl;
  fits = λ i h. below_two (λ k. get_or {A = ℕ} (0 ∷ 0 ∷ []) k 0 < 2 ^ 64) (omega arith) (omega arith) i h;
}

-- a circuit that agrees with a box's table gives the box's output in each lane
pub box_is : (gates : List Gate) (box : List ℕ) → agree 6 (λ bs. map (on_bits bs) gates) (box_output box) ≡ true
    → (a b c d e f : List ℕ) → (length a ≡ 2) × Each1 (Fits w64) a → (length b ≡ 2) × Each1 (Fits w64) b → (length c ≡ 2) × Each1 (Fits w64) c
    → (length d ≡ 2) × Each1 (Fits w64) d → (length e ≡ 2) × Each1 (Fits w64) e → (length f ≡ 2) × Each1 (Fits w64) f
    → (lane : ℕ) → lane_bits lane (map (on_pairs (a ∷ b ∷ c ∷ d ∷ e ∷ f ∷ [])) gates) ≡ box_output box (lane_bits lane (a ∷ b ∷ c ∷ d ∷ e ∷ f ∷ []))
unfolding lane_bits
box_is gates box agrees a b c d e f pa pb pc pd pe pf lane =
    let pairs : List (List ℕ) = a ∷ b ∷ c ∷ d ∷ e ∷ f ∷ [] in
    lane-circuit lane pairs gates
    (six_pairs a b c d e f (IsPair-from a pa) (IsPair-from b pb) (IsPair-from c pc) (IsPair-from d pd) (IsPair-from e pe) (IsPair-from f pf))
    ∙ agree-at 6 (λ bs. map (on_bits bs) gates) (box_output box) agrees (lane_bits lane pairs) refl
