-- Binary digits and their values.
use Rattle.std.proofs.Common.{◌≡◌, ℕ, zero, suc, ◌+◌, ◌-◌, ◌*◌, ◌/◌, ◌%◌, ◌^◌, ◌<◌, ◌≤◌, ◌==◌, Bool, true, false, List, [], ◌∷◌, ◌++◌, length, take, drop}
use Rattle.std.proofs.Common.{slice_index_or, bit_xor, refl, sym, ap, ◌∙◌, arith, pow-suc, mod-lt, length-append, map}
use Rattle.std.proofs.lemmas.Nat.{mod-pow-add, shr_high, mod_low, shr_split, shr-shr, xor_block, xor_shr, xor_mod}
use Rattle.std.proofs.lemmas.Nat.Bits.{bit_at_cat_low, bit_at_xor, bit_at-lt}
use Rattle.std.proofs.lemmas.List.{length-map}
use Rattle.std.proofs.lemmas.List.FromFn.{get_or-map-range_with_len}
use Rattle.std.specs.List.{range_with_len}
use Rattle.des_block.specs.Bits.{bits, digit, number, picked, xor_bits}
use mathlib.Core.Bool.{xor}

-- what holds of 0 and of 1 holds of a number below 2
pub below_two : (P : ℕ → Type 0) → P 0 → P 1 → (x : ℕ) → x < 2 → P x
below_two P p q zero h = p
below_two P p q (suc zero) h = q
below_two P p q (suc (suc x)) h = absurd (omega arith)

digit-lt : (b : Bool) → digit b < 2
digit-lt true = omega arith
digit-lt false = omega arith

pub digit_of : (x : ℕ) → digit (x % 2 == 1) ≡ x % 2
digit_of x = below_two (λ r. digit (r == 1) ≡ r) refl refl (x % 2) (mod-lt x (omega arith))

pub test_digit : (b : Bool) → (digit b % 2 == 1) ≡ b
test_digit true = refl
test_digit false = refl

pub length-bits : (n x : ℕ) → length (bits n x) ≡ n
unfolding bits
length-bits zero x = refl
length-bits (suc n) x = ap suc (length-bits n x)

pub number-lt : (bs : List Bool) → number bs < 2 ^ length bs
unfolding number
number-lt [] = omega arith
number-lt (true ∷ bs) = omega (arith, number-lt bs, pow-suc 2 (length bs))
number-lt (false ∷ bs) = omega (arith, number-lt bs, pow-suc 2 (length bs))

-- the lowest n digits of the number
pub number-bits : (n x : ℕ) → number (bits n x) ≡ x % 2 ^ n
unfolding bits number
number-bits zero x = omega arith
number-bits (suc n) x =
    let top : digit (x / 2 ^ n % 2 == 1) ≡ x / 2 ^ n % 2 = digit_of (x / 2 ^ n) in
    let split : x % 2 ^ (1 + n) ≡ (x / 2 ^ n % 2 ^ 1) * 2 ^ n + x % 2 ^ n = mod-pow-add x 1 n in
    rw (length-bits n x, top, number-bits n x) (sym (ap (λ k. x % 2 ^ k) (omega arith) ∙ split))

-- digits above the n lowest do not count
pub bits_low : (n k a x : ℕ) → n ≤ k → bits n (a * 2 ^ k + x) ≡ bits n x
unfolding bits
bits_low zero k a x h = refl
bits_low (suc n) k a x h =
    let top : (a * 2 ^ k + x) / 2 ^ n % 2 ≡ x / 2 ^ n % 2 = bit_at_cat_low a k x n (omega arith) in
    rw (top, bits_low n k a x (omega arith)) refl

pub bits_mod : (n x : ℕ) → bits n (x % 2 ^ n) ≡ bits n x
bits_mod n x = sym (bits_low n n (x / 2 ^ n) (x % 2 ^ n) (omega arith)) ∙ ap (bits n) (shr_split x n)

pub bits_of_number : (bs : List Bool) → bits (length bs) (number bs) ≡ bs
unfolding bits number
bits_of_number [] = refl
bits_of_number (b ∷ bs) =
    let top : (digit b * 2 ^ length bs + number bs) / 2 ^ length bs ≡ digit b = shr_high (digit b) (length bs) (number bs) (number-lt bs) in
    rw (top, test_digit b, bits_low (length bs) (length bs) (digit b) (number bs) (omega arith), bits_of_number bs) refl

pub bits-number : (n : ℕ) (bs : List Bool) → length bs ≡ n → bits n (number bs) ≡ bs
bits-number n bs e = rw (← e) (bits_of_number bs)

pub number-append : (xs ys : List Bool) → number (xs ++ ys) ≡ number xs * 2 ^ length ys + number ys
unfolding number
number-append [] ys = omega arith
number-append (x ∷ xs) ys =
    let e : 2 ^ (length xs + length ys) ≡ 2 ^ length xs * 2 ^ length ys = Rattle.std.proofs.lemmas.Nat.pow-add 2 (length xs) (length ys) in
    rw (number-append xs ys, length-append xs ys, e) (omega arith)

-- a digit by its place, counted from 0 from the left
pub digit_at : (n x i : ℕ) → i < n → slice_index_or (bits n x) i false ≡ (x / 2 ^ (n - 1 - i) % 2 == 1)
unfolding bits
digit_at zero x i h = absurd (omega arith)
digit_at (suc n) x zero h = ap (λ k. x / 2 ^ k % 2 == 1) (omega arith)
digit_at (suc n) x (suc i) h =
    let e : suc n - 1 - suc i ≡ n - 1 - i = omega arith in
    rw e (digit_at n x i (omega arith))

pub drop-bits : (k n x : ℕ) → drop k (bits (k + n) x) ≡ bits n x
unfolding bits
drop-bits zero n x = ap (λ m. bits m x) (omega arith)
drop-bits (suc k) n x =
    let e : suc k + n ≡ suc (k + n) = omega arith in
    rw e (drop-bits k n x)

pub take-bits : (k n x : ℕ) → take k (bits (k + n) x) ≡ bits k (x / 2 ^ n)
unfolding bits
take-bits zero n x = refl
take-bits (suc k) n x =
    let e : suc k + n ≡ suc (k + n) = omega arith in
    let place : x / 2 ^ n / 2 ^ k ≡ x / 2 ^ (k + n) = shr-shr x n k ∙ ap (λ m. x / 2 ^ m) (omega arith) in
    rw (e, take-bits k n x, place) refl

two_digits : (P : ℕ → ℕ → Type 0) → P 0 0 → P 0 1 → P 1 0 → P 1 1 → (a b : ℕ) → a < 2 → b < 2 → P a b
two_digits P p q r s a b ha hb =
    below_two (λ x. P x b) (below_two (P 0) p q b hb) (below_two (P 1) r s b hb) a ha

-- the digits of an xor are the xor of the digits
pub bits-xor : (n a b : ℕ) → bits n (bit_xor a b) ≡ xor_bits (bits n a) (bits n b)
unfolding bits xor_bits mathlib.Core.Bool.xor
bits-xor zero a b = refl
bits-xor (suc n) a b =
    let top : bit_xor a b / 2 ^ n % 2 ≡ (a / 2 ^ n % 2 + b / 2 ^ n % 2) % 2 = bit_at_xor a b n in
    let step : ((a / 2 ^ n % 2 + b / 2 ^ n % 2) % 2 == 1) ≡ xor (a / 2 ^ n % 2 == 1) (b / 2 ^ n % 2 == 1) =
    two_digits (λ x y. ((x + y) % 2 == 1) ≡ xor (x == 1) (y == 1)) refl refl refl refl
    (a / 2 ^ n % 2) (b / 2 ^ n % 2) (bit_at-lt a n) (bit_at-lt b n) in
    rw (top, step, bits-xor n a b) refl

pub length-xor_bits : (xs ys : List Bool) → length xs ≡ length ys → length (xor_bits xs ys) ≡ length xs
unfolding xor_bits
length-xor_bits [] ys e = refl
length-xor_bits (x ∷ xs) [] e = absurd (omega arith)
length-xor_bits (x ∷ xs) (y ∷ ys) e = ap suc (length-xor_bits xs ys (omega arith))

pub length-picked : (table : List ℕ) (bs : List Bool) → length (picked table bs) ≡ length table
unfolding picked
length-picked table bs = length-map table _

-- more digits on the left
pub bits-append : (n m a b : ℕ) → b < 2 ^ m → bits (n + m) (a * 2 ^ m + b) ≡ bits n a ++ bits m b
unfolding bits
bits-append zero m a b h = ap (λ k. bits k (a * 2 ^ m + b)) (omega arith) ∙ bits_low m m a b (omega arith)
bits-append (suc n) m a b h =
    let e : suc n + m ≡ suc (n + m) = omega arith in
    let place : (a * 2 ^ m + b) / 2 ^ (n + m) ≡ a / 2 ^ n =
    ap (λ k. (a * 2 ^ m + b) / 2 ^ k) (omega arith) ∙ sym (shr-shr (a * 2 ^ m + b) m n) ∙ ap (λ k. k / 2 ^ n) (shr_high a m b h) in
    rw (e, place, bits-append n m a b h) refl

-- two functions with one table of values agree on its arguments
pub agree_below : (f g : ℕ → ℕ) (n : ℕ) → map f (range_with_len 0 n) ≡ map g (range_with_len 0 n) → (x : ℕ) → x < n → f x ≡ g x
agree_below f g n e x h =
    sym (get_or-map-range_with_len f 0 n x x 0 h (omega arith)) ∙ ap (λ t. slice_index_or t x 0) e ∙ get_or-map-range_with_len g 0 n x x 0 h (omega arith)
