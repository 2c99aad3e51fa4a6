-- Functions additive over xor: of words, and bits selected by a table. Two such functions agree if they agree on the
-- powers of two.
use Rattle.std.proofs.Common.{◌≡◌, ℕ, zero, suc, ◌+◌, ◌-◌, ◌*◌, ◌/◌, ◌%◌, ◌^◌, ◌<◌, ◌≤◌, min, ◌==◌, Bool, true, false, List, [], ◌∷◌, ◌++◌, length, map}
use Rattle.std.proofs.Common.{slice_index_or, bit_xor, bit_and, refl, sym, ap, ap₂, ◌∙◌, arith, pow_pos, mod-lt, add-zero}
use Rattle.std.proofs.lemmas.Nat.{xor_shr, xor_mod, xor_block, shr_split, xor_comm}
use Rattle.std.proofs.lemmas.Nat.Bits.{bit_at_and, bit_at_xor, bit_at-lt, same_from_bits}
use lib.Bits.{xor_assoc, xor_self, xor_shifted}
use mathlib.Core.Bool.{xor}
use Rattle.des_block.specs.Bits.{bits, digit, number, picked, xor_bits}
use Rattle.des_block.proofs.Digits.{below_two, length-bits, length-picked, length-xor_bits, bits-xor, number-lt}
use Rattle.des_block.proofs.Digits.{agree_below}

-- a function that goes through xor
pub record Additive (f : ℕ → ℕ) : Type 0 where
  pub through : (x y : ℕ) → f (bit_xor x y) ≡ bit_xor (f x) (f y)

pub at_zero : (f : ℕ → ℕ) → Additive f → f 0 ≡ 0
at_zero f a = a.through 0 0 ∙ xor_self (f 0)

pub shr_additive : (k : ℕ) → Additive (λ x. x / 2 ^ k)
shr_additive k = record { through = λ x y. xor_shr x y k }

pub low_additive : (k : ℕ) → Additive (λ x. x % 2 ^ k)
low_additive k = record { through = λ x y. xor_mod x y k }

pub shl_additive : (k : ℕ) → Additive (λ x. x * 2 ^ k)
shl_additive k =
    record {
      through = λ x y. sym (sym (ap₂ bit_xor (add-zero (x * 2 ^ k)) (add-zero (y * 2 ^ k))) ∙ xor_block k x y 0 0 (pow_pos k) (pow_pos k)
          ∙ add-zero (bit_xor x y * 2 ^ k));
    }

masked_digit : (a b m : ℕ) → a < 2 → b < 2 → m < 2 → min ((a + b) % 2) m ≡ (min a m + min b m) % 2
masked_digit a b m ha hb hm =
    below_two (λ x. min ((x + b) % 2) m ≡ (min x m + min b m) % 2)
    (below_two (λ y. min ((0 + y) % 2) m ≡ (min 0 m + min y m) % 2)
    (below_two (λ z. min ((0 + 0) % 2) z ≡ (min 0 z + min 0 z) % 2) refl refl m hm)
    (below_two (λ z. min ((0 + 1) % 2) z ≡ (min 0 z + min 1 z) % 2) refl refl m hm) b hb)
    (below_two (λ y. min ((1 + y) % 2) m ≡ (min 1 m + min y m) % 2)
    (below_two (λ z. min ((1 + 0) % 2) z ≡ (min 1 z + min 0 z) % 2) refl refl m hm)
    (below_two (λ z. min ((1 + 1) % 2) z ≡ (min 1 z + min 1 z) % 2) refl refl m hm) b hb) a ha

and-xor : (a b m : ℕ) → bit_and (bit_xor a b) m ≡ bit_xor (bit_and a m) (bit_and b m)
and-xor a b m =
    same_from_bits (bit_and (bit_xor a b) m) (bit_xor (bit_and a m) (bit_and b m)) (λ i.
    bit_at_and (bit_xor a b) m i ∙ ap (λ d. min d (m / 2 ^ i % 2)) (bit_at_xor a b i)
    ∙ masked_digit (a / 2 ^ i % 2) (b / 2 ^ i % 2) (m / 2 ^ i % 2) (bit_at-lt a i) (bit_at-lt b i) (bit_at-lt m i)
    ∙ sym (bit_at_xor (bit_and a m) (bit_and b m) i ∙ ap₂ (λ d e. (d + e) % 2) (bit_at_and a m i) (bit_at_and b m i)))

pub mask_additive : (m : ℕ) → Additive (λ x. bit_and x m)
mask_additive m = record { through = λ x y. and-xor x y m }

xor_crossed : (a b c d : ℕ) → bit_xor (bit_xor a b) (bit_xor c d) ≡ bit_xor (bit_xor a c) (bit_xor b d)
xor_crossed a b c d =
    xor_assoc a b (bit_xor c d) ∙ ap (bit_xor a) (sym (xor_assoc b c d) ∙ ap (λ e. bit_xor e d) (xor_comm b c) ∙ xor_assoc c b d)
    ∙ sym (xor_assoc a c (bit_xor b d))

pub xor_additive : (f g : ℕ → ℕ) → Additive f → Additive g → Additive (λ x. bit_xor (f x) (g x))
xor_additive f g a b =
    record { through = λ x y. ap₂ bit_xor (a.through x y) (b.through x y) ∙ xor_crossed (f x) (f y) (g x) (g y) }

pub after_additive : (f g : ℕ → ℕ) → Additive f → Additive g → Additive (λ x. f (g x))
after_additive f g a b = record { through = λ x y. ap f (b.through x y) ∙ a.through (g x) (g y) }

-- ---- bits

digit-xor : (x y : Bool) → digit (xor x y) ≡ bit_xor (digit x) (digit y)
unfolding mathlib.Core.Bool.xor
digit-xor true true = refl
digit-xor true false = refl
digit-xor false true = refl
digit-xor false false = refl

pub number-xor_bits : (xs ys : List Bool) → length xs ≡ length ys → number (xor_bits xs ys) ≡ bit_xor (number xs) (number ys)
unfolding number xor_bits
number-xor_bits [] [] e = refl
number-xor_bits [] (y ∷ ys) e = absurd (omega arith)
number-xor_bits (x ∷ xs) [] e = absurd (omega arith)
number-xor_bits (x ∷ xs) (y ∷ ys) e =
    let same : length xs ≡ length ys = omega arith in
    let fits : number ys < 2 ^ length xs = rw same (number-lt ys) in
    rw (length-xor_bits xs ys same, number-xor_bits xs ys same, digit-xor x y, ← same)
    (sym (xor_block (length xs) (digit x) (digit y) (number xs) (number ys) (number-lt xs) fits))

xor_bits_at : (xs ys : List Bool) (i : ℕ) → length xs ≡ length ys
    → slice_index_or (xor_bits xs ys) i false ≡ xor (slice_index_or xs i false) (slice_index_or ys i false)
unfolding xor_bits mathlib.Core.Bool.xor
xor_bits_at [] [] i e = refl
xor_bits_at [] (y ∷ ys) i e = absurd (omega arith)
xor_bits_at (x ∷ xs) [] i e = absurd (omega arith)
xor_bits_at (x ∷ xs) (y ∷ ys) zero e = refl
xor_bits_at (x ∷ xs) (y ∷ ys) (suc i) e = xor_bits_at xs ys i (omega arith)

pub picked-xor_bits : (table : List ℕ) (xs ys : List Bool) → length xs ≡ length ys
    → picked table (xor_bits xs ys) ≡ xor_bits (picked table xs) (picked table ys)
unfolding picked xor_bits
picked-xor_bits [] xs ys e = refl
picked-xor_bits (n ∷ table) xs ys e = ap₂ (λ b bs. b ∷ bs) (xor_bits_at xs ys (n - 1) e) (picked-xor_bits table xs ys e)

pub xor_bits-append : (ws bs cs ds : List Bool) → length ws ≡ length cs → xor_bits (ws ++ bs) (cs ++ ds) ≡ xor_bits ws cs ++ xor_bits bs ds
unfolding xor_bits
xor_bits-append [] bs [] ds e = refl
xor_bits-append [] bs (c ∷ cs) ds e = absurd (omega arith)
xor_bits-append (a ∷ ws) bs [] ds e = absurd (omega arith)
xor_bits-append (a ∷ ws) bs (c ∷ cs) ds e = ap (λ xs. xor a c ∷ xs) (xor_bits-append ws bs cs ds (omega arith))

-- a table on the bits of a word
abbrev pub word_picked : ℕ → List ℕ → ℕ → ℕ
word_picked n table x = number (picked table (bits n x))

pub picked_additive : (n : ℕ) (table : List ℕ) → Additive (word_picked n table)
picked_additive n table = record {
  through = λ x y.
      let len : length (bits n x) ≡ length (bits n y) = length-bits n x ∙ sym (length-bits n y) in
      let out : length (picked table (bits n x)) ≡ length (picked table (bits n y)) = length-picked table (bits n x) ∙ sym (length-picked table (bits n y)) in
      ap (λ b. number (picked table b)) (bits-xor n x y) ∙ ap number (picked-xor_bits table (bits n x) (bits n y) len)
      ∙ number-xor_bits (picked table (bits n x)) (picked table (bits n y)) out;
}

module _ (f g : ℕ → ℕ) (a : Additive f) (b : Additive g) where
  one_digit : (n d : ℕ) → d < 2 → f (2 ^ n) ≡ g (2 ^ n) → f (d * 2 ^ n) ≡ g (d * 2 ^ n)
  one_digit n d h e =
      below_two (λ x. f (x * 2 ^ n) ≡ g (x * 2 ^ n))
      (ap f (omega arith) ∙ at_zero f a ∙ sym (at_zero g b) ∙ ap g (omega arith))
      (ap f (omega arith) ∙ e ∙ ap g (omega arith)) d h

  -- two functions that go through xor agree if they agree on the powers of two
  same_on_words : (n : ℕ) → ((i : ℕ) → i < n → f (2 ^ i) ≡ g (2 ^ i)) → (x : ℕ) → x < 2 ^ n → f x ≡ g x
  same_on_words zero h x l =
      let none : x ≡ 0 = omega arith in
      ap f none ∙ at_zero f a ∙ sym (at_zero g b) ∙ ap g (sym none)
  same_on_words (suc n) h x l =
      let top : ℕ = x / 2 ^ n in
      let low : ℕ = x % 2 ^ n in
      let top_fits : top < 2 = Rattle.std.proofs.lemmas.Nat.shr_below x 1 n (Rattle.std.proofs.Common.subst (λ k. x < 2 ^ k) (omega arith) l) in
      let low_fits : low < 2 ^ n = mod-lt x (pow_pos n) in
      let parts : bit_xor (top * 2 ^ n) low ≡ x = xor_shifted top n low low_fits ∙ shr_split x n in
      ap f (sym parts) ∙ a.through (top * 2 ^ n) low
      ∙ ap₂ bit_xor (one_digit n top top_fits (h n (omega arith))) (same_on_words n (λ i k. h i (omega arith)) low low_fits)
      ∙ sym (b.through (top * 2 ^ n) low) ∙ ap g parts

  pub same_additive : (n : ℕ)
      → map (λ i. f (2 ^ i)) (Rattle.std.specs.List.range_with_len 0 n) ≡ map (λ i. g (2 ^ i)) (Rattle.std.specs.List.range_with_len 0 n)
      → (x : ℕ) → x < 2 ^ n → f x ≡ g x
  same_additive n e = same_on_words n (agree_below (λ i. f (2 ^ i)) (λ i. g (2 ^ i)) n e)
