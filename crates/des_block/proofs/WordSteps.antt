-- Halves of a block in words: rotations, and IP by exchanges of bits.
use Rattle.std.proofs.Common.{◌≡◌, ℕ, ◌+◌, ◌*◌, ◌/◌, ◌%◌, ◌^◌, ◌<◌, Bool, List, ◌++◌, length, take, drop, bit_xor, bit_and, bit_or, refl, sym, ap, ap₂, ◌∙◌}
use Rattle.std.proofs.Common.{arith, pow_pos, mod-lt, add_comm, take_at, drop_at, take-append-drop, length-drop}
use Rattle.std.proofs.lemmas.Nat.{shr_split, shr_below, shl_below, pow-add, mod_low, or_shifted, or_comm, and_mask}
use Rattle.des_block.specs.Bits.{bits, number, picked}
use Rattle.des_block.specs.Tables.{initial_permutation, inverse_permutation}
use Rattle.des_block.specs.Cipher.{halves, turned}
use Rattle.des_block.specs.Keyed.{turned_halves}
use Rattle.des_block.proofs.Digits.{length-bits, length-picked, bits-number, number-append, bits_mod, take-bits, drop-bits}
use Rattle.des_block.proofs.Digits.{bits-append}
use Rattle.des_block.proofs.Linear.{Additive, shr_additive, low_additive, shl_additive, mask_additive, xor_additive, after_additive, picked_additive}
use Rattle.des_block.proofs.Linear.{word_picked, same_additive}

-- a rotation of a word turns its bits
pub rotated_bits : (n k m : ℕ) → n < 2 ^ (k + m) → bits (k + m) (bit_or (n * 2 ^ k % 2 ^ (k + m)) (n / 2 ^ m)) ≡ turned k (bits (k + m) n)
unfolding turned
rotated_bits n k m h =
    let hi : ℕ = n / 2 ^ m in
    let lo : ℕ = n % 2 ^ m in
    let hi_fits : hi < 2 ^ k = shr_below n k m h in
    let lo_fits : lo < 2 ^ m = mod-lt n (pow_pos m) in
    let width : 2 ^ (m + k) ≡ 2 ^ (k + m) = ap (λ w. 2 ^ w) (add_comm m k) in
    let low_fits : lo * 2 ^ k < 2 ^ (k + m) = omega (arith, shl_below lo m k lo_fits, width) in
    let whole : n * 2 ^ k ≡ hi * 2 ^ (k + m) + lo * 2 ^ k =
    ap (λ x. x * 2 ^ k) (sym (shr_split n m)) ∙ omega (arith, ap (λ w. hi * w) (sym (pow-add 2 m k) ∙ width)) in
    let low : n * 2 ^ k % 2 ^ (k + m) ≡ lo * 2 ^ k = ap (λ x. x % 2 ^ (k + m)) whole ∙ mod_low hi (k + m) (lo * 2 ^ k) low_fits in
    ap (λ x. bits (k + m) (bit_or x hi)) low ∙ ap (bits (k + m)) (or_shifted lo k hi hi_fits)
    ∙ ap (λ w. bits w (lo * 2 ^ k + hi)) (add_comm k m) ∙ bits-append m k lo hi hi_fits
    ∙ ap₂ (λ x y. x ++ y) (bits_mod m n ∙ sym (drop-bits k m n)) (sym (take-bits k m n))

pub turned_back : (bs : List Bool) (k m : ℕ) → length bs ≡ k + m → turned m (turned k bs) ≡ bs
unfolding turned
turned_back bs k m len =
    let back : length (drop k bs) ≡ m = omega (arith, length-drop k bs) in
    ap₂ (λ x y. x ++ y) (drop_at (drop k bs) (take k bs) m back) (take_at (drop k bs) (take k bs) m back) ∙ take-append-drop k bs

-- the two words that an exchange of bits gives
abbrev pub raised : ℕ → ℕ → ℕ → ℕ → ℕ
raised s m a b = bit_xor a (bit_and (bit_xor (a / 2 ^ s) b) m * 2 ^ s % 2 ^ 32)

abbrev pub lowered : ℕ → ℕ → ℕ → ℕ → ℕ
lowered s m a b = bit_xor b (bit_and (bit_xor (a / 2 ^ s) b) m)

module _ (s m : ℕ) (f g : ℕ → ℕ) (a : Additive f) (b : Additive g) where
  different_additive : Additive (λ x. bit_and (bit_xor (f x / 2 ^ s) (g x)) m)
  different_additive =
      after_additive (λ y. bit_and y m) (λ x. bit_xor (f x / 2 ^ s) (g x)) (mask_additive m)
      (xor_additive (λ x. f x / 2 ^ s) g (after_additive (λ y. y / 2 ^ s) f (shr_additive s) a) b)

  raised_additive : Additive (λ x. raised s m (f x) (g x))
  raised_additive =
      xor_additive f (λ x. bit_and (bit_xor (f x / 2 ^ s) (g x)) m * 2 ^ s % 2 ^ 32) a
      (after_additive (λ y. y % 2 ^ 32) (λ x. bit_and (bit_xor (f x / 2 ^ s) (g x)) m * 2 ^ s) (low_additive 32)
      (after_additive (λ y. y * 2 ^ s) (λ x. bit_and (bit_xor (f x / 2 ^ s) (g x)) m) (shl_additive s) different_additive))

  lowered_additive : Additive (λ x. lowered s m (f x) (g x))
  lowered_additive = xor_additive g (λ x. bit_and (bit_xor (f x / 2 ^ s) (g x)) m) b different_additive

-- IP, one exchange after another, on both halves of a word
split_a0 : ℕ → ℕ
split_a0 x = x / 2 ^ 32

split_b0 : ℕ → ℕ
split_b0 x = x % 2 ^ 32

split_a1 : ℕ → ℕ
split_a1 x = raised 4 252645135 (split_a0 x) (split_b0 x)

split_b1 : ℕ → ℕ
split_b1 x = lowered 4 252645135 (split_a0 x) (split_b0 x)

split_a2 : ℕ → ℕ
split_a2 x = raised 16 65535 (split_a1 x) (split_b1 x)

split_b2 : ℕ → ℕ
split_b2 x = lowered 16 65535 (split_a1 x) (split_b1 x)

split_b3 : ℕ → ℕ
split_b3 x = raised 2 858993459 (split_b2 x) (split_a2 x)

split_a3 : ℕ → ℕ
split_a3 x = lowered 2 858993459 (split_b2 x) (split_a2 x)

split_b4 : ℕ → ℕ
split_b4 x = raised 8 16711935 (split_b3 x) (split_a3 x)

split_a4 : ℕ → ℕ
split_a4 x = lowered 8 16711935 (split_b3 x) (split_a3 x)

split_a5 : ℕ → ℕ
split_a5 x = raised 1 1431655765 (split_a4 x) (split_b4 x)

split_b5 : ℕ → ℕ
split_b5 x = lowered 1 1431655765 (split_a4 x) (split_b4 x)

split_a0_additive : Additive split_a0
unfolding split_a0
split_a0_additive = shr_additive 32

split_b0_additive : Additive split_b0
unfolding split_b0
split_b0_additive = low_additive 32

split_a1_additive : Additive split_a1
unfolding split_a1
split_a1_additive = raised_additive 4 252645135 split_a0 split_b0 split_a0_additive split_b0_additive

split_b1_additive : Additive split_b1
unfolding split_b1
split_b1_additive = lowered_additive 4 252645135 split_a0 split_b0 split_a0_additive split_b0_additive

split_a2_additive : Additive split_a2
unfolding split_a2
split_a2_additive = raised_additive 16 65535 split_a1 split_b1 split_a1_additive split_b1_additive

split_b2_additive : Additive split_b2
unfolding split_b2
split_b2_additive = lowered_additive 16 65535 split_a1 split_b1 split_a1_additive split_b1_additive

split_b3_additive : Additive split_b3
unfolding split_b3
split_b3_additive = raised_additive 2 858993459 split_b2 split_a2 split_b2_additive split_a2_additive

split_a3_additive : Additive split_a3
unfolding split_a3
split_a3_additive = lowered_additive 2 858993459 split_b2 split_a2 split_b2_additive split_a2_additive

split_b4_additive : Additive split_b4
unfolding split_b4
split_b4_additive = raised_additive 8 16711935 split_b3 split_a3 split_b3_additive split_a3_additive

split_a4_additive : Additive split_a4
unfolding split_a4
split_a4_additive = lowered_additive 8 16711935 split_b3 split_a3 split_b3_additive split_a3_additive

split_a5_additive : Additive split_a5
unfolding split_a5
split_a5_additive = raised_additive 1 1431655765 split_a4 split_b4 split_a4_additive split_b4_additive

split_b5_additive : Additive split_b5
unfolding split_b5
split_b5_additive = lowered_additive 1 1431655765 split_a4 split_b4 split_a4_additive split_b4_additive

split_a_picked : (x : ℕ) → x < 2 ^ 64 → split_a5 x ≡ word_picked 64 (take 32 initial_permutation) x
unfolding split_a0 split_b0 split_a1 split_b1 split_a2 split_b2 split_a3 split_b3 split_a4 split_b4 split_a5 split_b5 bits number picked initial_permutation
split_a_picked x h =
    same_additive split_a5 (word_picked 64 (take 32 initial_permutation)) split_a5_additive (picked_additive 64 (take 32 initial_permutation)) 64 refl x h

split_a_bits : (x : ℕ) → x < 2 ^ 64 → bits 32 (split_a5 x) ≡ take 32 (picked initial_permutation (bits 64 x))
unfolding picked initial_permutation
split_a_bits x h =
    ap (bits 32) (split_a_picked x h)
    ∙ bits-number 32 (picked (take 32 initial_permutation) (bits 64 x)) (length-picked (take 32 initial_permutation) (bits 64 x))

split_b_picked : (x : ℕ) → x < 2 ^ 64 → split_b5 x ≡ word_picked 64 (drop 32 initial_permutation) x
unfolding split_a0 split_b0 split_a1 split_b1 split_a2 split_b2 split_a3 split_b3 split_a4 split_b4 split_a5 split_b5 bits number picked initial_permutation
split_b_picked x h =
    same_additive split_b5 (word_picked 64 (drop 32 initial_permutation)) split_b5_additive (picked_additive 64 (drop 32 initial_permutation)) 64 refl x h

split_b_bits : (x : ℕ) → x < 2 ^ 64 → bits 32 (split_b5 x) ≡ drop 32 (picked initial_permutation (bits 64 x))
unfolding picked initial_permutation
split_b_bits x h =
    ap (bits 32) (split_b_picked x h)
    ∙ bits-number 32 (picked (drop 32 initial_permutation) (bits 64 x)) (length-picked (drop 32 initial_permutation) (bits 64 x))

pub split_is : (block a1 b1 a2 b2 b3 a3 b4 a4 a5 b5 l r : ℕ) → block < 2 ^ 64 → a5 < 2 ^ 32 → b5 < 2 ^ 32
    → a1 ≡ raised 4 252645135 (block / 2 ^ 32) (bit_and block 4294967295)
    → b1 ≡ lowered 4 252645135 (block / 2 ^ 32) (bit_and block 4294967295)
    → a2 ≡ raised 16 65535 a1 b1
    → b2 ≡ lowered 16 65535 a1 b1
    → b3 ≡ raised 2 858993459 b2 a2
    → a3 ≡ lowered 2 858993459 b2 a2
    → b4 ≡ raised 8 16711935 b3 a3
    → a4 ≡ lowered 8 16711935 b3 a3
    → a5 ≡ raised 1 1431655765 a4 b4
    → b5 ≡ lowered 1 1431655765 a4 b4
    → l ≡ bit_or (a5 * 2 ^ 1 % 2 ^ 32) (a5 / 2 ^ 31) → r ≡ bit_or (b5 * 2 ^ 1 % 2 ^ 32) (b5 / 2 ^ 31)
    → turned_halves l r ≡ halves (picked initial_permutation (bits 64 block))
unfolding turned_halves halves split_a0 split_b0 split_a1 split_b1 split_a2 split_b2 split_a3 split_b3 split_a4 split_b4 split_a5 split_b5
split_is block a1 b1 a2 b2 b3 a3 b4 a4 a5 b5 l r fits fa fb ha1 hb1 ha2 hb2 hb3 ha3 hb4 ha4 ha5 hb5 hl hr =
    let ea0 : block / 2 ^ 32 ≡ split_a0 block = refl in
    let eb0 : bit_and block 4294967295 ≡ split_b0 block = and_mask block 32 in
    let ea1 : a1 ≡ split_a1 block = ha1 ∙ ap₂ (λ p q. raised 4 252645135 p q) ea0 eb0 in
    let eb1 : b1 ≡ split_b1 block = hb1 ∙ ap₂ (λ p q. lowered 4 252645135 p q) ea0 eb0 in
    let ea2 : a2 ≡ split_a2 block = ha2 ∙ ap₂ (λ p q. raised 16 65535 p q) ea1 eb1 in
    let eb2 : b2 ≡ split_b2 block = hb2 ∙ ap₂ (λ p q. lowered 16 65535 p q) ea1 eb1 in
    let eb3 : b3 ≡ split_b3 block = hb3 ∙ ap₂ (λ p q. raised 2 858993459 p q) eb2 ea2 in
    let ea3 : a3 ≡ split_a3 block = ha3 ∙ ap₂ (λ p q. lowered 2 858993459 p q) eb2 ea2 in
    let eb4 : b4 ≡ split_b4 block = hb4 ∙ ap₂ (λ p q. raised 8 16711935 p q) eb3 ea3 in
    let ea4 : a4 ≡ split_a4 block = ha4 ∙ ap₂ (λ p q. lowered 8 16711935 p q) eb3 ea3 in
    let ea5 : a5 ≡ split_a5 block = ha5 ∙ ap₂ (λ p q. raised 1 1431655765 p q) ea4 eb4 in
    let eb5 : b5 ≡ split_b5 block = hb5 ∙ ap₂ (λ p q. lowered 1 1431655765 p q) ea4 eb4 in
    let left : turned 31 (bits 32 l) ≡ take 32 (picked initial_permutation (bits 64 block)) =
    ap (λ x. turned 31 (bits 32 x)) hl ∙ ap (turned 31) (rotated_bits a5 1 31 fa) ∙ turned_back (bits 32 a5) 1 31 (length-bits 32 a5)
    ∙ ap (bits 32) ea5 ∙ split_a_bits block fits in
    let right : turned 31 (bits 32 r) ≡ drop 32 (picked initial_permutation (bits 64 block)) =
    ap (λ x. turned 31 (bits 32 x)) hr ∙ ap (turned 31) (rotated_bits b5 1 31 fb) ∙ turned_back (bits 32 b5) 1 31 (length-bits 32 b5)
    ∙ ap (bits 32) eb5 ∙ split_b_bits block fits in
    ap₂ (λ x y. record { left = x; right = y }) left right

-- and the inverse of IP
join_a0 : ℕ → ℕ
join_a0 x = x / 2 ^ 32

join_b0 : ℕ → ℕ
join_b0 x = x % 2 ^ 32

join_a1 : ℕ → ℕ
join_a1 x = raised 1 1431655765 (join_a0 x) (join_b0 x)

join_b1 : ℕ → ℕ
join_b1 x = lowered 1 1431655765 (join_a0 x) (join_b0 x)

join_b2 : ℕ → ℕ
join_b2 x = raised 8 16711935 (join_b1 x) (join_a1 x)

join_a2 : ℕ → ℕ
join_a2 x = lowered 8 16711935 (join_b1 x) (join_a1 x)

join_b3 : ℕ → ℕ
join_b3 x = raised 2 858993459 (join_b2 x) (join_a2 x)

join_a3 : ℕ → ℕ
join_a3 x = lowered 2 858993459 (join_b2 x) (join_a2 x)

join_a4 : ℕ → ℕ
join_a4 x = raised 16 65535 (join_a3 x) (join_b3 x)

join_b4 : ℕ → ℕ
join_b4 x = lowered 16 65535 (join_a3 x) (join_b3 x)

join_a5 : ℕ → ℕ
join_a5 x = raised 4 252645135 (join_a4 x) (join_b4 x)

join_b5 : ℕ → ℕ
join_b5 x = lowered 4 252645135 (join_a4 x) (join_b4 x)

join_a0_additive : Additive join_a0
unfolding join_a0
join_a0_additive = shr_additive 32

join_b0_additive : Additive join_b0
unfolding join_b0
join_b0_additive = low_additive 32

join_a1_additive : Additive join_a1
unfolding join_a1
join_a1_additive = raised_additive 1 1431655765 join_a0 join_b0 join_a0_additive join_b0_additive

join_b1_additive : Additive join_b1
unfolding join_b1
join_b1_additive = lowered_additive 1 1431655765 join_a0 join_b0 join_a0_additive join_b0_additive

join_b2_additive : Additive join_b2
unfolding join_b2
join_b2_additive = raised_additive 8 16711935 join_b1 join_a1 join_b1_additive join_a1_additive

join_a2_additive : Additive join_a2
unfolding join_a2
join_a2_additive = lowered_additive 8 16711935 join_b1 join_a1 join_b1_additive join_a1_additive

join_b3_additive : Additive join_b3
unfolding join_b3
join_b3_additive = raised_additive 2 858993459 join_b2 join_a2 join_b2_additive join_a2_additive

join_a3_additive : Additive join_a3
unfolding join_a3
join_a3_additive = lowered_additive 2 858993459 join_b2 join_a2 join_b2_additive join_a2_additive

join_a4_additive : Additive join_a4
unfolding join_a4
join_a4_additive = raised_additive 16 65535 join_a3 join_b3 join_a3_additive join_b3_additive

join_b4_additive : Additive join_b4
unfolding join_b4
join_b4_additive = lowered_additive 16 65535 join_a3 join_b3 join_a3_additive join_b3_additive

join_a5_additive : Additive join_a5
unfolding join_a5
join_a5_additive = raised_additive 4 252645135 join_a4 join_b4 join_a4_additive join_b4_additive

join_b5_additive : Additive join_b5
unfolding join_b5
join_b5_additive = lowered_additive 4 252645135 join_a4 join_b4 join_a4_additive join_b4_additive

join_a_picked : (x : ℕ) → x < 2 ^ 64 → join_a5 x ≡ word_picked 64 (take 32 inverse_permutation) x
unfolding join_a0 join_b0 join_a1 join_b1 join_a2 join_b2 join_a3 join_b3 join_a4 join_b4 join_a5 join_b5 bits number picked inverse_permutation
join_a_picked x h =
    same_additive join_a5 (word_picked 64 (take 32 inverse_permutation)) join_a5_additive (picked_additive 64 (take 32 inverse_permutation)) 64 refl x h

join_a_is : (x : ℕ) → x < 2 ^ 64 → join_a5 x ≡ number (take 32 (picked inverse_permutation (bits 64 x)))
unfolding picked inverse_permutation
join_a_is x h = join_a_picked x h

join_b_picked : (x : ℕ) → x < 2 ^ 64 → join_b5 x ≡ word_picked 64 (drop 32 inverse_permutation) x
unfolding join_a0 join_b0 join_a1 join_b1 join_a2 join_b2 join_a3 join_b3 join_a4 join_b4 join_a5 join_b5 bits number picked inverse_permutation
join_b_picked x h =
    same_additive join_b5 (word_picked 64 (drop 32 inverse_permutation)) join_b5_additive (picked_additive 64 (drop 32 inverse_permutation)) 64 refl x h

join_b_is : (x : ℕ) → x < 2 ^ 64 → join_b5 x ≡ number (drop 32 (picked inverse_permutation (bits 64 x)))
unfolding picked inverse_permutation
join_b_is x h = join_b_picked x h

length_low : (bs : List Bool) → length (drop 32 (picked inverse_permutation bs)) ≡ 32
unfolding picked inverse_permutation
length_low bs = refl

pub joined_is : (left right p q a1 b1 b2 a2 b3 a3 a4 b4 a5 b5 out : ℕ) → left < 2 ^ 32 → right < 2 ^ 32 → p < 2 ^ 32 → q < 2 ^ 32 → a5 < 2 ^ 32 → b5 < 2 ^ 32
    → p ≡ bit_or (right / 2 ^ 1) (right * 2 ^ 31 % 2 ^ 32) → q ≡ bit_or (left / 2 ^ 1) (left * 2 ^ 31 % 2 ^ 32)
    → a1 ≡ raised 1 1431655765 p q
    → b1 ≡ lowered 1 1431655765 p q
    → b2 ≡ raised 8 16711935 b1 a1
    → a2 ≡ lowered 8 16711935 b1 a1
    → b3 ≡ raised 2 858993459 b2 a2
    → a3 ≡ lowered 2 858993459 b2 a2
    → a4 ≡ raised 16 65535 a3 b3
    → b4 ≡ lowered 16 65535 a3 b3
    → a5 ≡ raised 4 252645135 a4 b4
    → b5 ≡ lowered 4 252645135 a4 b4
    → out ≡ bit_or (a5 * 2 ^ 32 % 2 ^ 64) b5
    → out ≡ number (picked inverse_permutation ((turned_halves left right).right ++ (turned_halves left right).left))
unfolding turned_halves join_a0 join_b0 join_a1 join_b1 join_a2 join_b2 join_a3 join_b3 join_a4 join_b4 join_a5 join_b5
joined_is left right p q a1 b1 b2 a2 b3 a3 a4 b4 a5 b5 out fl fr fp fq fa fb hp hq ha1 hb1 hb2 ha2 hb3 ha3 ha4 hb4 ha5 hb5 ho =
    let z : ℕ = p * 2 ^ 32 + q in
    let fits : z < 2 ^ 64 = omega arith in
    let p_bits : bits 32 p ≡ turned 31 (bits 32 right) = ap (bits 32) (hp ∙ or_comm (right / 2 ^ 1) (right * 2 ^ 31 % 2 ^ 32)) ∙ rotated_bits right 31 1 fr in
    let q_bits : bits 32 q ≡ turned 31 (bits 32 left) = ap (bits 32) (hq ∙ or_comm (left / 2 ^ 1) (left * 2 ^ 31 % 2 ^ 32)) ∙ rotated_bits left 31 1 fl in
    let both : bits 64 z ≡ turned 31 (bits 32 right) ++ turned 31 (bits 32 left) = bits-append 32 32 p q fq ∙ ap₂ (λ x y. x ++ y) p_bits q_bits in
    let ea0 : p ≡ join_a0 z = omega arith in
    let eb0 : q ≡ join_b0 z = omega arith in
    let ea1 : a1 ≡ join_a1 z = ha1 ∙ ap₂ (λ p q. raised 1 1431655765 p q) ea0 eb0 in
    let eb1 : b1 ≡ join_b1 z = hb1 ∙ ap₂ (λ p q. lowered 1 1431655765 p q) ea0 eb0 in
    let eb2 : b2 ≡ join_b2 z = hb2 ∙ ap₂ (λ p q. raised 8 16711935 p q) eb1 ea1 in
    let ea2 : a2 ≡ join_a2 z = ha2 ∙ ap₂ (λ p q. lowered 8 16711935 p q) eb1 ea1 in
    let eb3 : b3 ≡ join_b3 z = hb3 ∙ ap₂ (λ p q. raised 2 858993459 p q) eb2 ea2 in
    let ea3 : a3 ≡ join_a3 z = ha3 ∙ ap₂ (λ p q. lowered 2 858993459 p q) eb2 ea2 in
    let ea4 : a4 ≡ join_a4 z = ha4 ∙ ap₂ (λ p q. raised 16 65535 p q) ea3 eb3 in
    let eb4 : b4 ≡ join_b4 z = hb4 ∙ ap₂ (λ p q. lowered 16 65535 p q) ea3 eb3 in
    let ea5 : a5 ≡ join_a5 z = ha5 ∙ ap₂ (λ p q. raised 4 252645135 p q) ea4 eb4 in
    let eb5 : b5 ≡ join_b5 z = hb5 ∙ ap₂ (λ p q. lowered 4 252645135 p q) ea4 eb4 in
    let word : List Bool = picked inverse_permutation (bits 64 z) in
    let high : a5 ≡ number (take 32 word) = ea5 ∙ join_a_is z fits in
    let low : b5 ≡ number (drop 32 word) = eb5 ∙ join_b_is z fits in
    let len : length (drop 32 word) ≡ 32 = length_low (bits 64 z) in
    let whole : a5 * 2 ^ 32 % 2 ^ 64 ≡ a5 * 2 ^ 32 = omega arith in
    let sum : number word ≡ number (take 32 word) * 2 ^ 32 + number (drop 32 word) =
    ap number (sym (take-append-drop 32 word)) ∙ number-append (take 32 word) (drop 32 word)
    ∙ ap (λ w. number (take 32 word) * 2 ^ w + number (drop 32 word)) len in
    ho ∙ ap (λ x. bit_or x b5) whole ∙ or_shifted a5 32 b5 fb ∙ ap₂ (λ x y. x * 2 ^ 32 + y) high low ∙ sym sum
    ∙ ap (λ b. number (picked inverse_permutation b)) both
