-- The merged tables are the S boxes and P, and the round's word is the cipher function.
use Rattle.std.proofs.Common.{◌≡◌, ℕ, ◌+◌, ◌*◌, ◌/◌, ◌%◌, ◌^◌, ◌<◌, ◌≤◌, Bool, List, [], ◌∷◌, ◌++◌, length, map, take, drop, get_or, slice_index, bit_xor}
use Rattle.std.proofs.Common.{bit_and, bit_or, refl, sym, ap, ap₂, ◌∙◌, arith, append-nil, length-append, fold, subst}
use Rattle.std.specs.List.{range_with_len}
use Rattle.std.proofs.lemmas.Nat.{or_comm, and_mask}
use Rattle.std.proofs.lemmas.List.{drop_more, drop_all, length-map}
use Rattle.std.proofs.lemmas.List.FromFn.{get_or-map-range_with_len}
use lib.Bits.{xor_shifted, xor_assoc}
use Rattle.des_block.specs.Bits.{bits, number, picked, xor_bits}
use Rattle.des_block.specs.Tables.{expansion, box_permutation, s1, s2, s3, s4, s5, s6, s7, s8, s_boxes}
use Rattle.des_block.specs.Cipher.{box_output, substituted, cipher_function, round, turned}
use Rattle.des_block.specs.Keyed.{box_places, turned_halves}
use Rattle.des_block.proofs.Digits.{length-bits, bits-number, number-append, bits_mod, bits-xor, take-bits, number-lt}
use Rattle.des_block.proofs.Lengths.{length-turned, length-box_output, length-substituted, length-cipher_function}
use Rattle.des_block.proofs.Linear.{Additive, picked_additive, word_picked, picked-xor_bits, xor_bits-append}
use Rattle.des_block.proofs.WordSteps.{rotated_bits, turned_back}

-- P, turned left by one place
unfoldable pub turned_permutation : List ℕ
turned_permutation = drop 1 box_permutation ++ take 1 box_permutation

unfoldable pub merged : ℕ → ℕ
merged y = word_picked 32 turned_permutation y

merged_additive : Additive merged
unfolding merged
merged_additive = picked_additive 32 turned_permutation

-- what a merged table holds for six bits: the box's output sits k places from the right
unfoldable pub box_word : List ℕ → ℕ → ℕ → ℕ
box_word box k x = merged (number (box_output box (bits 6 x)) * 2 ^ k)

-- the low six bits of a byte
bits_byte : (x : ℕ) → bits 6 (x % 256) ≡ bits 6 x
bits_byte x = sym (bits_mod 6 (x % 256)) ∙ ap (bits 6) (omega arith) ∙ bits_mod 6 x

-- a table's entry
pub box_at : (t box : List ℕ) (k x : ℕ) → t ≡ map (box_word box k) (range_with_len 0 256) → slice_index t (bit_and x 255) ≡ box_word box k x
unfolding box_word
box_at t box k x e =
    let below : x % 256 < 256 = omega arith in
    ap (slice_index t) (and_mask x 8) ∙ ap (λ u. slice_index u (x % 256)) e
    ∙ get_or-map-range_with_len (box_word box k) 0 256 (x % 256) (x % 256) 0 below (omega arith)
    ∙ ap (λ b. merged (number (box_output box b) * 2 ^ k)) (bits_byte x)

-- the same of a number that is a byte already
pub box_top : (t box : List ℕ) (k x : ℕ) → t ≡ map (box_word box k) (range_with_len 0 256) → x < 256 → slice_index t x ≡ box_word box k x
box_top t box k x e below =
    ap (λ u. slice_index u x) e ∙ get_or-map-range_with_len (box_word box k) 0 256 x x 0 below (omega arith)

turned-picked : (bs : List Bool) → turned 1 (picked box_permutation bs) ≡ picked turned_permutation bs
unfolding turned picked box_permutation turned_permutation
turned-picked bs = refl

merged_number : (bs : List Bool) → length bs ≡ 32 → number (turned 1 (picked box_permutation bs)) ≡ merged (number bs)
unfolding merged
merged_number bs len = ap number (turned-picked bs) ∙ ap (λ b. number (picked turned_permutation b)) (sym (bits-number 32 bs len))

merged-append : (b rest : List Bool) (n : ℕ) → length rest ≡ n → merged (number (b ++ rest)) ≡ bit_xor (merged (number b * 2 ^ n)) (merged (number rest))
merged-append b rest n len =
    let low : number rest < 2 ^ n = rw (← len) (number-lt rest) in
    ap merged (number-append b rest ∙ ap (λ k. number b * 2 ^ k + number rest) len ∙ sym (xor_shifted (number b) n (number rest) low))
    ∙ merged_additive.through (number b * 2 ^ n) (number rest)

-- the eight boxes over the two words of their inputs
boxed : (o e : ℕ) → substituted s_boxes (picked box_places (bits 32 o ++ bits 32 e))
    ≡ box_output s1 (take 6 (bits 30 o)) ++ (box_output s2 (take 6 (bits 30 e)) ++ (box_output s3 (take 6 (bits 22 o)) ++ (box_output s4 (take 6 (bits 22 e))
    ++ (box_output s5
    (take 6 (bits 14 o)) ++ (box_output s6 (take 6 (bits 14 e)) ++ (box_output s7 (take 6 (bits 6 o)) ++ (box_output s8 (take 6 (bits 6 e)) ++ [])))))))
unfolding substituted s_boxes picked box_places bits
boxed o e = refl

length_boxes : (a b : List ℕ) (p q : List Bool) → length (box_output a p ++ box_output b q) ≡ 8
length_boxes a b p q = omega (arith, length-append (box_output a p) (box_output b q), length-box_output a p, length-box_output b q)

-- a list of eight four-bit outputs as a word
merged_boxes : (b1 b2 b3 b4 b5 b6 b7 b8 : List Bool) → length b2 ≡ 4 → length b3 ≡ 4 → length b4 ≡ 4 → length b5 ≡ 4 → length b6 ≡ 4 → length b7 ≡ 4
    → length b8 ≡ 4
    → merged (number (b1 ++ (b2 ++ (b3 ++ (b4 ++ (b5 ++ (b6 ++ (b7 ++ b8))))))))
    ≡ bit_xor (merged (number b1 * 2 ^ 28))
    (bit_xor (merged (number b2 * 2 ^ 24)) (bit_xor (merged (number b3 * 2 ^ 20)) (bit_xor (merged (number b4 * 2 ^ 16))
    (bit_xor (merged (number b5 * 2 ^ 12)) (bit_xor (merged (number b6 * 2 ^ 8)) (bit_xor (merged (number b7 * 2 ^ 4)) (merged (number b8))))))))
merged_boxes b1 b2 b3 b4 b5 b6 b7 b8 l2 l3 l4 l5 l6 l7 l8 =
    let r7 : List Bool = b7 ++ b8 in
    let r6 : List Bool = b6 ++ r7 in
    let r5 : List Bool = b5 ++ r6 in
    let r4 : List Bool = b4 ++ r5 in
    let r3 : List Bool = b3 ++ r4 in
    let r2 : List Bool = b2 ++ r3 in
    let n7 : length r7 ≡ 8 = omega (arith, length-append b7 b8) in
    let n6 : length r6 ≡ 12 = omega (arith, length-append b6 r7) in
    let n5 : length r5 ≡ 16 = omega (arith, length-append b5 r6) in
    let n4 : length r4 ≡ 20 = omega (arith, length-append b4 r5) in
    let n3 : length r3 ≡ 24 = omega (arith, length-append b3 r4) in
    let n2 : length r2 ≡ 28 = omega (arith, length-append b2 r3) in
    merged-append b1 r2 28 n2 ∙ ap (bit_xor (merged (number b1 * 2 ^ 28))) (
    merged-append b2 r3 24 n3 ∙ ap (bit_xor (merged (number b2 * 2 ^ 24))) (
    merged-append b3 r4 20 n4 ∙ ap (bit_xor (merged (number b3 * 2 ^ 20))) (
    merged-append b4 r5 16 n5 ∙ ap (bit_xor (merged (number b4 * 2 ^ 16))) (
    merged-append b5 r6 12 n6 ∙ ap (bit_xor (merged (number b5 * 2 ^ 12))) (
    merged-append b6 r7 8 n7 ∙ ap (bit_xor (merged (number b6 * 2 ^ 8))) (
    merged-append b7 b8 4 l8))))))

left_first : (a b c d e f g h : ℕ) → bit_xor (bit_xor (bit_xor (bit_xor (bit_xor (bit_xor (bit_xor a b) c) d) e) f) g) h
    ≡ bit_xor a (bit_xor b (bit_xor c (bit_xor d (bit_xor e (bit_xor f (bit_xor g h))))))
left_first a b c d e f g h =
    xor_assoc (bit_xor (bit_xor (bit_xor (bit_xor (bit_xor a b) c) d) e) f) g h
    ∙ xor_assoc (bit_xor (bit_xor (bit_xor (bit_xor a b) c) d) e) f (bit_xor g h)
    ∙ xor_assoc (bit_xor (bit_xor (bit_xor a b) c) d) e (bit_xor f (bit_xor g h))
    ∙ xor_assoc (bit_xor (bit_xor a b) c) d (bit_xor e (bit_xor f (bit_xor g h)))
    ∙ xor_assoc (bit_xor a b) c (bit_xor d (bit_xor e (bit_xor f (bit_xor g h))))
    ∙ xor_assoc a b (bit_xor c (bit_xor d (bit_xor e (bit_xor f (bit_xor g h)))))

-- E, laid out as the key's words are
expanded_bits : (half : ℕ) → picked expansion (turned 31 (bits 32 half)) ≡ picked box_places (turned 28 (bits 32 half) ++ bits 32 half)
unfolding picked expansion turned bits box_places
expanded_bits half = refl

unfoldable pub mixed_word : ℕ → ℕ → ℕ
mixed_word o e =
    bit_xor (bit_xor (bit_xor (bit_xor (bit_xor (bit_xor (bit_xor (box_word s1 28 (o / 2 ^ 24)) (box_word s2 24 (e / 2 ^ 24))) (box_word s3 20 (o / 2 ^ 16)))
    (box_word s4 16 (e / 2 ^ 16))) (box_word s5 12 (o / 2 ^ 8))) (box_word s6 8 (e / 2 ^ 8))) (box_word s7 4 o)) (box_word s8 0 e)

mixed_boxes : (o e : ℕ) → number (turned 1 (picked box_permutation (substituted s_boxes (picked box_places (bits 32 o ++ bits 32 e))))) ≡ mixed_word o e
unfolding mixed_word box_word
mixed_boxes o e =
    let b1 : List Bool = box_output s1 (bits 6 (o / 2 ^ 24)) in
    let b2 : List Bool = box_output s2 (bits 6 (e / 2 ^ 24)) in
    let b3 : List Bool = box_output s3 (bits 6 (o / 2 ^ 16)) in
    let b4 : List Bool = box_output s4 (bits 6 (e / 2 ^ 16)) in
    let b5 : List Bool = box_output s5 (bits 6 (o / 2 ^ 8)) in
    let b6 : List Bool = box_output s6 (bits 6 (e / 2 ^ 8)) in
    let b7 : List Bool = box_output s7 (bits 6 o) in
    let b8 : List Bool = box_output s8 (bits 6 e) in
    let whole : (x : ℕ) → take 6 (bits 6 x) ≡ bits 6 x = λ x. Rattle.std.proofs.lemmas.List.take_all 6 (bits 6 x) (omega (arith, length-bits 6 x)) in
    let list : substituted s_boxes (picked box_places (bits 32 o ++ bits 32 e)) ≡ b1 ++ (b2 ++ (b3 ++ (b4 ++ (b5 ++ (b6 ++ (b7 ++ b8)))))) =
    boxed o e
    ∙ ap₂ (λ b r. b ++ r) (ap (box_output s1) (take-bits 6 24 o)) (
    ap₂ (λ b r. b ++ r) (ap (box_output s2) (take-bits 6 24 e)) (
    ap₂ (λ b r. b ++ r) (ap (box_output s3) (take-bits 6 16 o)) (
    ap₂ (λ b r. b ++ r) (ap (box_output s4) (take-bits 6 16 e)) (
    ap₂ (λ b r. b ++ r) (ap (box_output s5) (take-bits 6 8 o)) (
    ap₂ (λ b r. b ++ r) (ap (box_output s6) (take-bits 6 8 e)) (
    ap₂ (λ b r. b ++ r) (ap (box_output s7) (whole o)) (
    append-nil (box_output s8 (take 6 (bits 6 e))) ∙ ap (box_output s8) (whole e)))))))) in
    let last : merged (number b8) ≡ merged (number b8 * 2 ^ 0) = ap merged (omega arith) in
    merged_number (substituted s_boxes (picked box_places (bits 32 o ++ bits 32 e))) (length-substituted (picked box_places (bits 32 o ++ bits 32 e)))
    ∙ ap (λ l. merged (number l)) list
    ∙ merged_boxes b1 b2 b3 b4 b5 b6 b7 b8 (length-box_output s2 _) (length-box_output s3 _) (length-box_output s4 _) (length-box_output s5 _)
    (length-box_output s6 _) (length-box_output s7 _) (length-box_output s8 _)
    ∙ ap (λ x. bit_xor (merged (number b1 * 2 ^ 28))
    (bit_xor (merged (number b2 * 2 ^ 24)) (bit_xor (merged (number b3 * 2 ^ 20)) (bit_xor (merged (number b4 * 2 ^ 16))
    (bit_xor (merged (number b5 * 2 ^ 12)) (bit_xor (merged (number b6 * 2 ^ 8)) (bit_xor (merged (number b7 * 2 ^ 4)) x))))))) last
    ∙ sym (left_first (merged (number b1 * 2 ^ 28)) (merged (number b2 * 2 ^ 24)) (merged (number b3 * 2 ^ 20)) (merged (number b4 * 2 ^ 16))
    (merged (number b5 * 2 ^ 12)) (merged (number b6 * 2 ^ 8)) (merged (number b7 * 2 ^ 4)) (merged (number b8 * 2 ^ 0)))

-- the word of a round is the cipher function, turned left by one place
pub mixed_is : (half rot ko ke : ℕ) → half < 2 ^ 32 → rot ≡ bit_or (half / 2 ^ 4) (half * 2 ^ 28 % 2 ^ 32)
    → mixed_word (bit_xor rot ko) (bit_xor half ke)
    ≡ number (turned 1 (cipher_function (turned 31 (bits 32 half)) (picked box_places (bits 32 ko ++ bits 32 ke))))
unfolding cipher_function
mixed_is half rot ko ke fits er =
    let o : ℕ = bit_xor rot ko in
    let e : ℕ = bit_xor half ke in
    let rot_bits : bits 32 rot ≡ turned 28 (bits 32 half) = ap (bits 32) (er ∙ or_comm (half / 2 ^ 4) (half * 2 ^ 28 % 2 ^ 32))
    ∙ rotated_bits half 28 4 fits in
    let len : length (bits 32 rot ++ bits 32 half) ≡ length (bits 32 ko ++ bits 32 ke) =
    omega (
      arith,
      length-append (bits 32 rot) (bits 32 half),
      length-append (bits 32 ko) (bits 32 ke),
      length-bits 32 rot,
      length-bits 32 half,
      length-bits 32 ko,
      length-bits 32 ke,
    ) in
    let expanded : picked expansion (turned 31 (bits 32 half)) ≡ picked box_places (bits 32 rot ++ bits 32 half) =
    expanded_bits half ∙ ap (λ b. picked box_places (b ++ bits 32 half)) (sym rot_bits) in
    let joined : xor_bits (picked expansion (turned 31 (bits 32 half))) (picked box_places (bits 32 ko ++ bits 32 ke))
    ≡ picked box_places (bits 32 o ++ bits 32 e) =
    ap (λ b. xor_bits b (picked box_places (bits 32 ko ++ bits 32 ke))) expanded
    ∙ sym (picked-xor_bits box_places (bits 32 rot ++ bits 32 half) (bits 32 ko ++ bits 32 ke) len)
    ∙ ap (picked box_places) (xor_bits-append (bits 32 rot) (bits 32 half) (bits 32 ko) (bits 32 ke) (length-bits 32 rot ∙ sym (length-bits 32 ko))
    ∙ ap₂ (λ p q. p ++ q) (sym (bits-xor 32 rot ko)) (sym (bits-xor 32 half ke))) in
    sym (mixed_boxes o e) ∙ ap (λ b. number (turned 1 (picked box_permutation (substituted s_boxes b)))) (sym joined)

-- ---- the rounds

-- turning back by one place, as a table
turn_table : List ℕ
turn_table = 32 ∷ range_with_len 1 31

back-picked : (x : ℕ) → turned 31 (bits 32 x) ≡ picked turn_table (bits 32 x)
unfolding turned bits picked turn_table
back-picked x = refl

-- turning back goes through xor
pub turned-xor : (x y : ℕ) → turned 31 (bits 32 (bit_xor x y)) ≡ xor_bits (turned 31 (bits 32 x)) (turned 31 (bits 32 y))
turned-xor x y =
    back-picked (bit_xor x y) ∙ ap (picked turn_table) (bits-xor 32 x y)
    ∙ picked-xor_bits turn_table (bits 32 x) (bits 32 y) (length-bits 32 x ∙ sym (length-bits 32 y))
    ∙ ap₂ xor_bits (sym (back-picked x)) (sym (back-picked y))

-- the rounds so far and those that are left
pub record Runs (keys : List (List Bool)) (left right i l r : ℕ) : Type 0 where
  pub joined : fold round (turned_halves l r) (drop i keys) ≡ fold round (turned_halves left right) keys

pub Runs_none : (keys : List (List Bool)) (left right : ℕ) → Runs keys left right 0 left right
Runs_none keys left right = record { joined = refl }

Runs_more : (keys : List (List Bool)) (left right i l r m : ℕ) (key : List Bool) → Runs keys left right i l r → i < length keys → key ≡ get_or keys i []
    → m ≡ number (turned 1 (cipher_function (turned 31 (bits 32 r)) key)) → Runs keys left right (i + 1) r (bit_xor l m)
unfolding turned_halves round
Runs_more keys left right i l r m key done h ek em =
    let out : List Bool = cipher_function (turned 31 (bits 32 r)) key in
    let len : length out ≡ 32 = length-cipher_function (turned 31 (bits 32 r)) key in
    let m_bits : turned 31 (bits 32 m) ≡ out =
    ap (λ x. turned 31 (bits 32 x)) em ∙ ap (turned 31) (bits-number 32 (turned 1 out) (length-turned 1 out ∙ len)) ∙ turned_back out 1 31 len in
    let next : turned 31 (bits 32 (bit_xor l m)) ≡ xor_bits (turned 31 (bits 32 l)) out = turned-xor l m ∙ ap (xor_bits (turned 31 (bits 32 l))) m_bits in
    let head : drop i keys ≡ key ∷ drop (i + 1) keys = drop_more keys i [] h ∙ ap (λ k. k ∷ drop (i + 1) keys) (sym ek) in
    let step : fold round (turned_halves l r) (drop i keys) ≡ fold round (turned_halves r (bit_xor l m)) (drop (i + 1) keys) =
    ap (fold round (turned_halves l r)) head
    ∙ ap (λ b. fold round (record { left = turned 31 (bits 32 r); right = b }) (drop (i + 1) keys)) (sym next) in
    record { joined = sym step ∙ done.joined }

-- two rounds of these halves, the second of which exchanges them back
pub two_are : (left right m n : ℕ) (first second : List Bool) → m ≡ number (turned 1 (cipher_function (turned 31 (bits 32 right)) first))
    → n ≡ number (turned 1 (cipher_function (turned 31 (bits 32 (bit_xor left m))) second))
    → turned_halves (bit_xor left m) (bit_xor right n) ≡ round (round (turned_halves left right) first) second
two_are left right m n first second em en =
    let keys : List (List Bool) = first ∷ second ∷ [] in
    let one : Runs keys left right 1 right (bit_xor left m) =
    Runs_more keys left right 0 left right m first (Runs_none keys left right) (omega arith) refl em in
    let two : Runs keys left right 2 (bit_xor left m) (bit_xor right n) =
    Runs_more keys left right 1 right (bit_xor left m) n second one (omega arith) refl en in
    two.joined

-- two rounds more, by the next two keys
pub Runs_two : (keys : List (List Bool)) (left right i l r p q : ℕ) (key next : List Bool) → Runs keys left right i l r → i + 1 < length keys
    → key ≡ get_or keys i [] → next ≡ get_or keys (i + 1) [] → turned_halves p q ≡ round (round (turned_halves l r) key) next
    → Runs keys left right (i + 1 + 1) p q
Runs_two keys left right i l r p q key next done h ek en both =
    let rest : List (List Bool) = drop (i + 1 + 1) keys in
    let ahead : drop i keys ≡ key ∷ next ∷ rest =
    drop_more keys i [] (omega arith) ∙ ap₂ (λ k ks. k ∷ ks) (sym ek) (drop_more keys (i + 1) [] h ∙ ap (λ k. k ∷ rest) (sym en)) in
    record { joined = ap (λ halves. fold round halves rest) both ∙ sym (ap (fold round (turned_halves l r)) ahead) ∙ done.joined }

-- four rounds more, two and two
pub Runs_four : (keys : List (List Bool)) (left right i l r m n p q : ℕ) (first second third fourth : List Bool) → Runs keys left right (4 * i) l r
    → 4 * i + 3 < length keys → first ≡ get_or keys (4 * i) [] → second ≡ get_or keys (4 * i + 1) [] → third ≡ get_or keys (4 * i + 2) []
    → fourth ≡ get_or keys (4 * i + 3) [] → turned_halves m n ≡ round (round (turned_halves l r) first) second
    → turned_halves p q ≡ round (round (turned_halves m n) third) fourth → Runs keys left right (4 * (i + 1)) p q
Runs_four keys left right i l r m n p q first second third fourth done h e1 e2 e3 e4 one two =
    let at : (a b : ℕ) (key : List Bool) → a ≡ b → key ≡ get_or keys a [] → key ≡ get_or keys b [] =
    λ a b key same is. is ∙ ap (λ k. get_or keys k []) same in
    let half : Runs keys left right (4 * i + 1 + 1) m n = Runs_two keys left right (4 * i) l r m n first second done (omega arith) e1 e2 one in
    let whole : Runs keys left right (4 * i + 1 + 1 + 1 + 1) p q =
    Runs_two keys left right (4 * i + 1 + 1) m n p q third fourth half (omega arith)
    (at (4 * i + 2) (4 * i + 1 + 1) third (omega arith) e3) (at (4 * i + 3) (4 * i + 1 + 1 + 1) fourth (omega arith) e4) two in
    subst (λ k. Runs keys left right k p q) (omega arith) whole

pub Runs_all : (keys : List (List Bool)) (left right i l r : ℕ) → Runs keys left right i l r → length keys ≤ i
    → turned_halves l r ≡ fold round (turned_halves left right) keys
Runs_all keys left right i l r done h = ap (fold round (turned_halves l r)) (sym (drop_all i keys h)) ∙ done.joined
