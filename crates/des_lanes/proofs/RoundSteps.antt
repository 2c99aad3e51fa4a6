-- The steps of a round, and the rounds of DES, in each lane.
use Rattle.std.proofs.Common.{◌≡◌, ℕ, zero, suc, ◌+◌, ◌*◌, ◌%◌, ◌<◌, Bool, false, List, [], ◌∷◌, ◌++◌, fold, take, drop, set}
use Rattle.std.proofs.Common.{length, map, get_or, bit_and, refl, sym, ap, ap₂, ◌∙◌, arith, subst}
use Rattle.std.specs.List.{range_with_len}
use Rattle.std.proofs.lemmas.List.{drop_more, drop_all, length-map, map-set, drop-drop}
use Rattle.des_block.specs.Bits.{picked, xor_bits}
use Rattle.des_block.specs.Tables.{initial_permutation, inverse_permutation, expansion, box_permutation, s1, s2, s3, s4, s5, s6, s7, s8, s_boxes}
use Rattle.des_block.specs.Cipher.{Halves, halves, box_output, substituted, cipher_function, round, ciphered}
use Rattle.des_lanes.specs.Lanes.{lane_bit, lane_bits, bits_at, with_output, with_outputs}
use Rattle.des_lanes.specs.declared.rounds.TheConstants.{OUTPUT_PLACES, HALF_PLACES}
use Rattle.des_lanes.proofs.Pairs.{Fills, Fills_more, Fills_all, agree_below, lane-length, tabulated, xor_bits-map, bit_at_place, bits_at_is, lane-at}
use mathlib.Core.Bool.{xor}

-- what holds of 0 to 7
below_eight : (P : ℕ → Type 0) → P 0 → P 1 → P 2 → P 3 → P 4 → P 5 → P 6 → P 7 → (i : ℕ) → i < 8 → P i
below_eight P p0 p1 p2 p3 p4 p5 p6 p7 zero h = p0
below_eight P p0 p1 p2 p3 p4 p5 p6 p7 (suc zero) h = p1
below_eight P p0 p1 p2 p3 p4 p5 p6 p7 (suc (suc zero)) h = p2
below_eight P p0 p1 p2 p3 p4 p5 p6 p7 (suc (suc (suc zero))) h = p3
below_eight P p0 p1 p2 p3 p4 p5 p6 p7 (suc (suc (suc (suc zero)))) h = p4
below_eight P p0 p1 p2 p3 p4 p5 p6 p7 (suc (suc (suc (suc (suc zero))))) h = p5
below_eight P p0 p1 p2 p3 p4 p5 p6 p7 (suc (suc (suc (suc (suc (suc zero)))))) h = p6
below_eight P p0 p1 p2 p3 p4 p5 p6 p7 (suc (suc (suc (suc (suc (suc (suc zero))))))) h = p7
below_eight P p0 p1 p2 p3 p4 p5 p6 p7 (suc (suc (suc (suc (suc (suc (suc (suc i)))))))) h = absurd (omega arith)

-- ---- the inputs of a box

-- a bit of the right half, xored with the one at a place of the round key's table
input_bit : List Bool → List Bool → List ℕ → ℕ → ℕ → Bool
input_bit right keys places r k = xor (get_or right r false) (get_or keys (bit_and (get_or places k 0) 63) false)

six_bits : List Bool → List Bool → List ℕ → ℕ → List Bool
six_bits right keys places i =
    input_bit right keys places ((4 * i + 31) % 32) (6 * i) ∷ input_bit right keys places (4 * i) (6 * i + 1)
    ∷ input_bit right keys places (4 * i + 1) (6 * i + 2) ∷ input_bit right keys places (4 * i + 2) (6 * i + 3)
    ∷ input_bit right keys places (4 * i + 3) (6 * i + 4) ∷ input_bit right keys places ((4 * i + 4) % 32) (6 * i + 5) ∷ []

six_bits_are : (right keys : List Bool) (places : List ℕ) (i : ℕ) → i < 8
    → six_bits right keys places i ≡ take 6 (drop (6 * i) (xor_bits (picked expansion right) (map (bit_at_place places keys) (range_with_len 0 48))))
unfolding six_bits input_bit bit_at_place picked expansion xor_bits
six_bits_are right keys places i h =
    below_eight (λ i. six_bits right keys places i ≡ take 6 (drop (6 * i) (xor_bits (picked expansion right) (map (bit_at_place places keys) (range_with_len 0 48)))))
    refl refl refl refl refl refl refl refl i h

input_is : (right keys : List (List ℕ)) (places : List ℕ) (lane r k : ℕ) (pair : List ℕ)
    → lane_bit lane pair ≡ xor (lane_bit lane (get_or right r [])) (lane_bit lane (get_or keys (bit_and (get_or places k 0) 63) []))
    → lane_bit lane pair ≡ input_bit (lane_bits lane right) (lane_bits lane keys) places r k
unfolding input_bit
input_is right keys places lane r k pair e = e ∙ ap₂ xor (lane-at lane right r) (lane-at lane keys _)

pub inputs_are : (right keys : List (List ℕ)) (places : List ℕ) (lane i : ℕ) (a b c d e f : List ℕ) → length places ≡ 48 → i < 8
    → lane_bit lane a ≡ xor (lane_bit lane (get_or right ((4 * i + 31) % 32) [])) (lane_bit lane (get_or keys (bit_and (get_or places (6 * i) 0) 63) []))
    → lane_bit lane b ≡ xor (lane_bit lane (get_or right (4 * i) [])) (lane_bit lane (get_or keys (bit_and (get_or places (6 * i + 1) 0) 63) []))
    → lane_bit lane c ≡ xor (lane_bit lane (get_or right (4 * i + 1) [])) (lane_bit lane (get_or keys (bit_and (get_or places (6 * i + 2) 0) 63) []))
    → lane_bit lane d ≡ xor (lane_bit lane (get_or right (4 * i + 2) [])) (lane_bit lane (get_or keys (bit_and (get_or places (6 * i + 3) 0) 63) []))
    → lane_bit lane e ≡ xor (lane_bit lane (get_or right (4 * i + 3) [])) (lane_bit lane (get_or keys (bit_and (get_or places (6 * i + 4) 0) 63) []))
    → lane_bit lane f ≡ xor (lane_bit lane (get_or right ((4 * i + 4) % 32) [])) (lane_bit lane (get_or keys (bit_and (get_or places (6 * i + 5) 0) 63) []))
    → lane_bits lane (a ∷ b ∷ c ∷ d ∷ e ∷ f ∷ [])
    ≡ take 6 (drop (6 * i) (xor_bits (picked expansion (lane_bits lane right)) (bits_at places (lane_bits lane keys))))
unfolding lane_bits six_bits
inputs_are right keys places lane i a b c d e f len h ea eb ec ed ee ef =
    let is : (r k : ℕ) (pair : List ℕ)
    → lane_bit lane pair ≡ xor (lane_bit lane (get_or right r [])) (lane_bit lane (get_or keys (bit_and (get_or places k 0) 63) []))
    → lane_bit lane pair ≡ input_bit (lane_bits lane right) (lane_bits lane keys) places r k = input_is right keys places lane in
    let link : Bool → List Bool → List Bool = λ x xs. x ∷ xs in
    ap₂ link (is _ _ a ea) (ap₂ link (is _ _ b eb) (ap₂ link (is _ _ c ec) (ap₂ link (is _ _ d ed) (ap₂ link (is _ _ e ee) (ap₂ link (is _ _ f ef) refl)))))
    ∙ six_bits_are (lane_bits lane right) (lane_bits lane keys) places i h
    ∙ ap (λ ks. take 6 (drop (6 * i) (xor_bits (picked expansion (lane_bits lane right)) ks))) (bits_at_is places (lane_bits lane keys) 48 len)

-- ---- the boxes

-- the outputs of the eight boxes, one after another
pub boxes_are : (mixed a b c d e f g h : List Bool)
    → a ≡ box_output s1 (take 6 (drop 0 mixed)) → b ≡ box_output s2 (take 6 (drop 6 mixed)) → c ≡ box_output s3 (take 6 (drop 12 mixed))
    → d ≡ box_output s4 (take 6 (drop 18 mixed)) → e ≡ box_output s5 (take 6 (drop 24 mixed)) → f ≡ box_output s6 (take 6 (drop 30 mixed))
    → g ≡ box_output s7 (take 6 (drop 36 mixed)) → h ≡ box_output s8 (take 6 (drop 42 mixed))
    → a ++ (b ++ (c ++ (d ++ (e ++ (f ++ (g ++ (h ++ []))))))) ≡ substituted s_boxes mixed
unfolding substituted s_boxes
boxes_are mixed a b c d e f g h ea eb ec ed ee ef eg eh =
    let join : List Bool → List Bool → List Bool = λ x y. x ++ y in
    let at_2 : drop 12 mixed ≡ drop 6 (drop 6 mixed) = sym (drop-drop 6 6 mixed) in
    let at_3 : drop 18 mixed ≡ drop 6 (drop 6 (drop 6 mixed)) = sym (drop-drop 6 12 mixed) ∙ ap (drop 6) at_2 in
    let at_4 : drop 24 mixed ≡ drop 6 (drop 6 (drop 6 (drop 6 mixed))) = sym (drop-drop 6 18 mixed) ∙ ap (drop 6) at_3 in
    let at_5 : drop 30 mixed ≡ drop 6 (drop 6 (drop 6 (drop 6 (drop 6 mixed)))) = sym (drop-drop 6 24 mixed) ∙ ap (drop 6) at_4 in
    let at_6 : drop 36 mixed ≡ drop 6 (drop 6 (drop 6 (drop 6 (drop 6 (drop 6 mixed))))) = sym (drop-drop 6 30 mixed) ∙ ap (drop 6) at_5 in
    let at_7 : drop 42 mixed ≡ drop 6 (drop 6 (drop 6 (drop 6 (drop 6 (drop 6 (drop 6 mixed)))))) = sym (drop-drop 6 36 mixed) ∙ ap (drop 6) at_6 in
    ap₂ join ea (ap₂ join eb (ap₂ join (ec ∙ ap (λ r. box_output s3 (take 6 r)) at_2) (ap₂ join (ed ∙ ap (λ r. box_output s4 (take 6 r)) at_3)
    (ap₂ join (ee ∙ ap (λ r. box_output s5 (take 6 r)) at_4) (ap₂ join (ef ∙ ap (λ r. box_output s6 (take 6 r)) at_5)
    (ap₂ join (eg ∙ ap (λ r. box_output s7 (take 6 r)) at_6) (ap₂ join (eh ∙ ap (λ r. box_output s8 (take 6 r)) at_7) refl)))))))

-- ---- their outputs, where P puts them

-- where the code has output j
unfoldable pub place : ℕ → ℕ
place j = bit_and (get_or OUTPUT_PLACES j 0) 31

-- a half where four places have other bits
with_four : ℕ → Bool → Bool → Bool → Bool → List Bool → List Bool
with_four i a b c d half = set (set (set (set half (place (4 * i)) a) (place (4 * i + 1)) b) (place (4 * i + 2)) c) (place (4 * i + 3)) d

added_bits : (half : List Bool) (p q r s : Bool) → length half ≡ 32 → (i : ℕ) → i < 8
    → with_four i (xor (get_or half (place (4 * i)) false) p) (xor (get_or half (place (4 * i + 1)) false) q) (xor (get_or half (place (4 * i + 2)) false) r)
    (xor (get_or half (place (4 * i + 3)) false) s) half
    ≡ with_outputs i (p ∷ q ∷ r ∷ s ∷ []) half
unfolding place with_four with_outputs with_output box_permutation
added_bits half p q r s len i h =
    let added : ℕ → List Bool → List Bool = λ i l. with_four i (xor (get_or l (place (4 * i)) false) p) (xor (get_or l (place (4 * i + 1)) false) q)
    (xor (get_or l (place (4 * i + 2)) false) r) (xor (get_or l (place (4 * i + 3)) false) s) l in
    below_eight (λ i. (l : List Bool) → length l ≡ 32 → added i l ≡ with_outputs i (p ∷ q ∷ r ∷ s ∷ []) l)
    (λ l n. subst (λ l. added 0 l ≡ with_outputs 0 (p ∷ q ∷ r ∷ s ∷ []) l) (sym (tabulated false l 32 n)) refl)
    (λ l n. subst (λ l. added 1 l ≡ with_outputs 1 (p ∷ q ∷ r ∷ s ∷ []) l) (sym (tabulated false l 32 n)) refl)
    (λ l n. subst (λ l. added 2 l ≡ with_outputs 2 (p ∷ q ∷ r ∷ s ∷ []) l) (sym (tabulated false l 32 n)) refl)
    (λ l n. subst (λ l. added 3 l ≡ with_outputs 3 (p ∷ q ∷ r ∷ s ∷ []) l) (sym (tabulated false l 32 n)) refl)
    (λ l n. subst (λ l. added 4 l ≡ with_outputs 4 (p ∷ q ∷ r ∷ s ∷ []) l) (sym (tabulated false l 32 n)) refl)
    (λ l n. subst (λ l. added 5 l ≡ with_outputs 5 (p ∷ q ∷ r ∷ s ∷ []) l) (sym (tabulated false l 32 n)) refl)
    (λ l n. subst (λ l. added 6 l ≡ with_outputs 6 (p ∷ q ∷ r ∷ s ∷ []) l) (sym (tabulated false l 32 n)) refl)
    (λ l n. subst (λ l. added 7 l ≡ with_outputs 7 (p ∷ q ∷ r ∷ s ∷ []) l) (sym (tabulated false l 32 n)) refl)
    i h half len

pub added_is : (half : List (List ℕ)) (lane i : ℕ) (a b c d p q r s : List ℕ) → length half ≡ 32 → i < 8
    → lane_bit lane a ≡ xor (lane_bit lane (get_or half (place (4 * i)) [])) (lane_bit lane p)
    → lane_bit lane b ≡ xor (lane_bit lane (get_or half (place (4 * i + 1)) [])) (lane_bit lane q)
    → lane_bit lane c ≡ xor (lane_bit lane (get_or half (place (4 * i + 2)) [])) (lane_bit lane r)
    → lane_bit lane d ≡ xor (lane_bit lane (get_or half (place (4 * i + 3)) [])) (lane_bit lane s)
    → lane_bits lane (set (set (set (set half (place (4 * i)) a) (place (4 * i + 1)) b) (place (4 * i + 2)) c) (place (4 * i + 3)) d)
    ≡ with_outputs i (lane_bits lane (p ∷ q ∷ r ∷ s ∷ [])) (lane_bits lane half)
unfolding lane_bits with_four
added_is half lane i a b c d p q r s len h ea eb ec ed =
    let f : List ℕ → Bool = lane_bit lane in
    let first : List (List ℕ) = set half (place (4 * i)) a in
    let second : List (List ℕ) = set first (place (4 * i + 1)) b in
    let third : List (List ℕ) = set second (place (4 * i + 2)) c in
    let bit : List ℕ → ℕ → Bool = λ y k. xor (get_or (lane_bits lane half) k false) (f y) in
    let is : (x y : List ℕ) (k : ℕ) → f x ≡ xor (f (get_or half k [])) (f y) → f x ≡ bit y k =
    λ x y k e. e ∙ ap (λ b. xor b (f y)) (lane-at lane half k) in
    map-set f third (place (4 * i + 3)) d
    ∙ ap (λ l. set l (place (4 * i + 3)) (f d)) (map-set f second (place (4 * i + 2)) c
    ∙ ap (λ l. set l (place (4 * i + 2)) (f c)) (map-set f first (place (4 * i + 1)) b
    ∙ ap (λ l. set l (place (4 * i + 1)) (f b)) (map-set f half (place (4 * i)) a)))
    ∙ ap₂ (λ (x y : Bool). with_four i x y (f c) (f d) (map f half)) (is a p (place (4 * i)) ea) (is b q (place (4 * i + 1)) eb)
    ∙ ap₂ (λ (x y : Bool). with_four i (bit p (place (4 * i))) (bit q (place (4 * i + 1))) x y (map f half))
    (is c r (place (4 * i + 2)) ec) (is d s (place (4 * i + 3)) ed)
    ∙ added_bits (lane_bits lane half) (f p) (f q) (f r) (f s) (length-map half f ∙ len) i h

-- after all eight boxes the half is xored with P of their outputs
pub mixes : (l : List Bool) → length l ≡ 32
    → (a0 a1 a2 a3 b0 b1 b2 b3 c0 c1 c2 c3 d0 d1 d2 d3 e0 e1 e2 e3 f0 f1 f2 f3 g0 g1 g2 g3 h0 h1 h2 h3 : Bool)
    → with_outputs 7 (h0 ∷ h1 ∷ h2 ∷ h3 ∷ [])
    (with_outputs 6 (g0 ∷ g1 ∷ g2 ∷ g3 ∷ []) (with_outputs 5 (f0 ∷ f1 ∷ f2 ∷ f3 ∷ [])
    (with_outputs 4 (e0 ∷ e1 ∷ e2 ∷ e3 ∷ []) (with_outputs 3 (d0 ∷ d1 ∷ d2 ∷ d3 ∷ [])
    (with_outputs 2 (c0 ∷ c1 ∷ c2 ∷ c3 ∷ []) (with_outputs 1 (b0 ∷ b1 ∷ b2 ∷ b3 ∷ [])
    (with_outputs 0 (a0 ∷ a1 ∷ a2 ∷ a3 ∷ []) l)))))))
    ≡ xor_bits l (picked box_permutation ((a0 ∷ a1 ∷ a2 ∷ a3 ∷ []) ++ ((b0 ∷ b1 ∷ b2 ∷ b3 ∷ []) ++ ((c0 ∷ c1 ∷ c2 ∷ c3 ∷ [])
    ++ ((d0 ∷ d1 ∷ d2 ∷ d3 ∷ []) ++ ((e0 ∷ e1 ∷ e2 ∷ e3 ∷ []) ++ ((f0 ∷ f1 ∷ f2 ∷ f3 ∷ []) ++ ((g0 ∷ g1 ∷ g2 ∷ g3 ∷ [])
    ++ ((h0 ∷ h1 ∷ h2 ∷ h3 ∷ []) ++ [])))))))))
unfolding with_outputs with_output box_permutation picked xor_bits
mixes l len a0 a1 a2 a3 b0 b1 b2 b3 c0 c1 c2 c3 d0 d1 d2 d3 e0 e1 e2 e3 f0 f1 f2 f3 g0 g1 g2 g3 h0 h1 h2 h3 =
    subst (λ l. with_outputs 7 (h0 ∷ h1 ∷ h2 ∷ h3 ∷ [])
    (with_outputs 6 (g0 ∷ g1 ∷ g2 ∷ g3 ∷ []) (with_outputs 5 (f0 ∷ f1 ∷ f2 ∷ f3 ∷ [])
    (with_outputs 4 (e0 ∷ e1 ∷ e2 ∷ e3 ∷ []) (with_outputs 3 (d0 ∷ d1 ∷ d2 ∷ d3 ∷ [])
    (with_outputs 2 (c0 ∷ c1 ∷ c2 ∷ c3 ∷ []) (with_outputs 1 (b0 ∷ b1 ∷ b2 ∷ b3 ∷ [])
    (with_outputs 0 (a0 ∷ a1 ∷ a2 ∷ a3 ∷ []) l)))))))
    ≡ xor_bits l (picked box_permutation ((a0 ∷ a1 ∷ a2 ∷ a3 ∷ []) ++ ((b0 ∷ b1 ∷ b2 ∷ b3 ∷ []) ++ ((c0 ∷ c1 ∷ c2 ∷ c3 ∷ [])
    ++ ((d0 ∷ d1 ∷ d2 ∷ d3 ∷ []) ++ ((e0 ∷ e1 ∷ e2 ∷ e3 ∷ []) ++ ((f0 ∷ f1 ∷ f2 ∷ f3 ∷ []) ++ ((g0 ∷ g1 ∷ g2 ∷ g3 ∷ [])
    ++ ((h0 ∷ h1 ∷ h2 ∷ h3 ∷ []) ++ []))))))))))
    (sym (tabulated false l 32 len)) refl

-- the halves of a lane
pub lane_halves : ℕ → List (List ℕ) → List (List ℕ) → Halves
lane_halves lane left right = record { left = lane_bits lane left; right = lane_bits lane right }

-- the round keys of a lane
pub lane_keys : ℕ → List (List ℕ) → List (List ℕ) → List (List Bool)
lane_keys lane keys order = map (λ places. bits_at places (lane_bits lane keys)) order

-- the halves after i rounds
pub record Rounds (order keys left right : List (List ℕ)) (i : ℕ) (l r : List (List ℕ)) : Type 0 where
  pub left_len : length l ≡ 32
  pub right_len : length r ≡ 32
  pub joined : (lane : ℕ) → fold round (lane_halves lane l r) (lane_keys lane keys (drop i order))
      ≡ fold round (lane_halves lane left right) (lane_keys lane keys order)

pub Rounds_none : (order keys left right : List (List ℕ)) → length left ≡ 32 → length right ≡ 32 → Rounds order keys left right 0 left right
Rounds_none order keys left right left_len right_len = record { left_len = left_len; right_len = right_len; joined = λ lane. refl }

pub Rounds_more : (order keys left right : List (List ℕ)) (i : ℕ) (l r next : List (List ℕ)) → Rounds order keys left right i l r → i < length order
    → length next ≡ 32
    → ((lane : ℕ) → lane_bits lane next ≡ xor_bits (lane_bits lane l) (cipher_function (lane_bits lane r) (bits_at (get_or order i []) (lane_bits lane keys))))
    → Rounds order keys left right (i + 1) r next
unfolding lane_halves lane_keys round
Rounds_more order keys left right i l r next done h len step = record {
  left_len = done.right_len;
  right_len = len;
  joined = λ lane.
      let rest : lane_keys lane keys (drop i order) ≡ bits_at (get_or order i []) (lane_bits lane keys) ∷ lane_keys lane keys (drop (i + 1) order) =
      ap (lane_keys lane keys) (drop_more order i [] h) in
      ap (λ (bs : List Bool). fold round (record { left = lane_bits lane r; right = bs }) (lane_keys lane keys (drop (i + 1) order))) (step lane)
      ∙ sym (ap (fold round (lane_halves lane l r)) rest) ∙ done.joined lane;
}

-- sixteen rounds between IP and its inverse are the cipher
pub Rounds_all : (order keys block left right l r out : List (List ℕ)) (i : ℕ) → Rounds order keys left right i l r → i ≡ length order
    → ((lane : ℕ) → lane_bits lane left ≡ take 32 (picked initial_permutation (lane_bits lane block)))
    → ((lane : ℕ) → lane_bits lane right ≡ drop 32 (picked initial_permutation (lane_bits lane block)))
    → ((lane : ℕ) → lane_bits lane out ≡ picked inverse_permutation (lane_bits lane r ++ lane_bits lane l))
    → (lane : ℕ) → lane_bits lane out ≡ ciphered (map (λ places. bits_at places (lane_bits lane keys)) order) (lane_bits lane block)
unfolding lane_halves lane_keys ciphered halves
Rounds_all order keys block left right l r out i done all is_left is_right ends lane =
    let none : drop i order ≡ [] = drop_all i order (omega arith) in
    let end : lane_halves lane l r ≡ fold round (lane_halves lane left right) (lane_keys lane keys order) =
    ap (λ ks. fold round (lane_halves lane l r) (lane_keys lane keys ks)) (sym none) ∙ done.joined lane in
    let start : lane_halves lane left right ≡ halves (picked initial_permutation (lane_bits lane block)) =
    ap₂ (λ (a b : List Bool). let h : Halves = record { left = a; right = b } in h) (is_left lane) (is_right lane) in
    ends lane
    ∙ ap (λ (h : Halves). picked inverse_permutation (h.right ++ h.left)) (end ∙ ap (λ h. fold round h (lane_keys lane keys order)) start)

-- ---- the inverse of IP

-- a bit of the block of two halves
pub back_bit : List (List ℕ) → List (List ℕ) → ℕ → ℕ → Bool
back_bit first second lane k = get_or (picked inverse_permutation (lane_bits lane first ++ lane_bits lane second)) k false

half_place : ℕ → ℕ
half_place i = bit_and (get_or HALF_PLACES i 0) 31

evens : (f s : List Bool) → length f ≡ 32 → length s ≡ 32
    → map (λ i. get_or s (half_place i) false) (range_with_len 0 32)
    ≡ map (λ i. get_or (picked inverse_permutation (f ++ s)) (2 * i) false) (range_with_len 0 32)
unfolding half_place picked inverse_permutation
evens f s lf ls =
    let Same : List Bool → List Bool → Type 0 = λ f s. map (λ i. get_or s (half_place i) false) (range_with_len 0 32)
    ≡ map (λ i. get_or (picked inverse_permutation (f ++ s)) (2 * i) false) (range_with_len 0 32) in
    subst (λ f. Same f s) (sym (tabulated false f 32 lf))
    (subst (λ s. Same (map (λ i. get_or f i false) (range_with_len 0 32)) s) (sym (tabulated false s 32 ls)) refl)

odds : (f s : List Bool) → length f ≡ 32 → length s ≡ 32
    → map (λ i. get_or f (half_place i) false) (range_with_len 0 32)
    ≡ map (λ i. get_or (picked inverse_permutation (f ++ s)) (2 * i + 1) false) (range_with_len 0 32)
unfolding half_place picked inverse_permutation
odds f s lf ls =
    let Same : List Bool → List Bool → Type 0 = λ f s. map (λ i. get_or f (half_place i) false) (range_with_len 0 32)
    ≡ map (λ i. get_or (picked inverse_permutation (f ++ s)) (2 * i + 1) false) (range_with_len 0 32) in
    subst (λ f. Same f s) (sym (tabulated false f 32 lf))
    (subst (λ s. Same (map (λ i. get_or f i false) (range_with_len 0 32)) s) (sym (tabulated false s 32 ls)) refl)

pub back_even : (first second : List (List ℕ)) (lane i : ℕ) → length first ≡ 32 → length second ≡ 32 → i < 32
    → lane_bit lane (get_or second (bit_and (get_or HALF_PLACES i 0) 31) []) ≡ back_bit first second lane (2 * i)
unfolding back_bit half_place
back_even first second lane i lf ls h =
    let f : List Bool = lane_bits lane first in
    let s : List Bool = lane_bits lane second in
    lane-at lane second (half_place i)
    ∙ agree_below (λ i. get_or s (half_place i) false) (λ i. get_or (picked inverse_permutation (f ++ s)) (2 * i) false) 32
    (evens f s (lane-length lane first ∙ lf) (lane-length lane second ∙ ls)) i h

pub back_odd : (first second : List (List ℕ)) (lane i : ℕ) → length first ≡ 32 → length second ≡ 32 → i < 32
    → lane_bit lane (get_or first (bit_and (get_or HALF_PLACES i 0) 31) []) ≡ back_bit first second lane (2 * i + 1)
unfolding back_bit half_place
back_odd first second lane i lf ls h =
    let f : List Bool = lane_bits lane first in
    let s : List Bool = lane_bits lane second in
    lane-at lane first (half_place i)
    ∙ agree_below (λ i. get_or f (half_place i) false) (λ i. get_or (picked inverse_permutation (f ++ s)) (2 * i + 1) false) 32
    (odds f s (lane-length lane first ∙ lf) (lane-length lane second ∙ ls)) i h

pub back_more : (f : ℕ → ℕ → Bool) (i : ℕ) (pairs : List (List ℕ)) (a b : List ℕ) → Fills f 64 (2 * i) pairs → i < 32
    → ((lane : ℕ) → lane_bit lane a ≡ f lane (2 * i)) → ((lane : ℕ) → lane_bit lane b ≡ f lane (2 * i + 1))
    → Fills f 64 (2 * (i + 1)) (set (set pairs (2 * i) a) (2 * i + 1) b)
back_more f i pairs a b done h even odd =
    let two_more : 2 * i + 1 + 1 ≡ 2 * (i + 1) = omega arith in
    subst (λ (n : ℕ). Fills f 64 n (set (set pairs (2 * i) a) (2 * i + 1) b)) two_more
    (Fills_more f 64 (2 * i + 1) (set pairs (2 * i) a) b (Fills_more f 64 (2 * i) pairs a done (omega arith) even) (omega arith) odd)

pub back_is : (first second out : List (List ℕ)) → Fills (back_bit first second) 64 64 out
    → (lane : ℕ) → lane_bits lane out ≡ picked inverse_permutation (lane_bits lane first ++ lane_bits lane second)
unfolding back_bit picked inverse_permutation
back_is first second out done lane =
    Fills_all (back_bit first second) 64 out done lane
    ∙ sym (tabulated false (picked inverse_permutation (lane_bits lane first ++ lane_bits lane second)) 64 refl)

-- ---- the xor of two blocks

pub xored_bit : List (List ℕ) → List (List ℕ) → ℕ → ℕ → Bool
xored_bit a b lane k = xor (get_or (lane_bits lane a) k false) (get_or (lane_bits lane b) k false)

pub xored_step : (a b now : List (List ℕ)) (lane k : ℕ) (next : List ℕ) → get_or now k [] ≡ get_or a k []
    → lane_bit lane next ≡ xor (lane_bit lane (get_or now k [])) (lane_bit lane (get_or b k [])) → lane_bit lane next ≡ xored_bit a b lane k
unfolding xored_bit
xored_step a b now lane k next same e = e ∙ ap₂ xor (ap (lane_bit lane) same ∙ lane-at lane a k) (lane-at lane b k)

pub xored_is : (a b out : List (List ℕ)) → Fills (xored_bit a b) 64 64 out → length a ≡ 64 → length b ≡ 64
    → (lane : ℕ) → lane_bits lane out ≡ xor_bits (lane_bits lane a) (lane_bits lane b)
unfolding xored_bit lane_bits
xored_is a b out done la lb lane =
    Fills_all (xored_bit a b) 64 out done lane
    ∙ xor_bits-map (λ k. get_or (lane_bits lane a) k false) (λ k. get_or (lane_bits lane b) k false) (range_with_len 0 64)
    ∙ ap₂ xor_bits (sym (tabulated false (lane_bits lane a) 64 (length-map a (lane_bit lane) ∙ la)))
    (sym (tabulated false (lane_bits lane b) 64 (length-map b (lane_bit lane) ∙ lb)))
