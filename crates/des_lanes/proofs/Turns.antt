-- Rows and columns exchanged, digit by digit of their numbers.
use Rattle.std.proofs.Common.{◌≡◌, ℕ, zero, suc, ◌+◌, ◌-◌, ◌*◌, ◌/◌, ◌%◌, ◌^◌, ◌<◌, ◌≤◌, ◌==◌, ◌&&◌, ◌||◌, Bool, true, false, List, [], ◌∷◌, if◌then◌else◌}
use Rattle.std.proofs.Common.{map, length, set, get_or, bit_and, bit_or, refl, sym, ap, ap₂, ◌∙◌, arith, mod-lt, w64, ◌≢◌, ⊎_elim}
use Rattle.std.proofs.Common.{get_or-set_same, get_or-set_other, length-set}
use Rattle.std.proofs.lemmas.Bool.{cases_eq}
use Rattle.std.specs.Int.{bit_not}
use lib.Lanes.{zip2}
use Rattle.std.proofs.Common.{pow_pos}
use Rattle.std.specs.Int.Bits.{and_lt}
use Rattle.std.proofs.lemmas.Nat.{shr-shr}
use Rattle.std.proofs.lemmas.Nat.Bits.{bit_at_cat_low, bit_at_cat_high}
use Rattle.std.proofs.lemmas.Simd.{get_or-zip2}
use Rattle.des_block.proofs.Digits.{below_two}
use Rattle.des_lanes.specs.Lanes.{lane_bit, digit, with_digit}
use Rattle.des_lanes.specs.declared.turning.TheConstants.{LOW_COLUMNS}
use Rattle.des_lanes.proofs.Pairs.{agree_below}
use Rattle.des_lanes.proofs.Gates.{IsPair, IsPair-zip2, IsPair-not, lane-and, lane-or, lane-not}
use mathlib.Core.Bool.{not}

chosen_bit : (m x y : Bool) → (x && m) || (y && not m) ≡ (if m then x else y)
chosen_bit true true true = refl
chosen_bit true true false = refl
chosen_bit true false true = refl
chosen_bit true false false = refl
chosen_bit false true true = refl
chosen_bit false true false = refl
chosen_bit false false true = refl
chosen_bit false false false = refl

pub chosen_is : (lane : ℕ) (mask a b : List ℕ) → IsPair mask → IsPair a → IsPair b
    → lane_bit lane (zip2 bit_or (zip2 bit_and a mask) (zip2 bit_and b (map (bit_not w64) mask)))
    ≡ (if lane_bit lane mask then lane_bit lane a else lane_bit lane b)
chosen_is lane mask a b pm pa pb =
    let kept : IsPair (zip2 bit_and a mask) = IsPair-zip2 bit_and (λ x y p q. and_lt 64 x y p q) a mask pa pm in
    let rest : IsPair (zip2 bit_and b (map (bit_not w64) mask)) =
    IsPair-zip2 bit_and (λ x y p q. and_lt 64 x y p q) b (map (bit_not w64) mask) pb (IsPair-not mask pm) in
    lane-or lane (zip2 bit_and a mask) (zip2 bit_and b (map (bit_not w64) mask)) kept rest
    ∙ ap₂ (λ x y. x || y) (lane-and lane a mask pa pm)
    (lane-and lane b (map (bit_not w64) mask) pb (IsPair-not mask pm) ∙ ap (λ m. lane_bit lane b && m) (lane-not lane mask pm))
    ∙ chosen_bit (lane_bit lane mask) (lane_bit lane a) (lane_bit lane b)

word_moved : (f : ℕ → ℕ → ℕ) (a : List ℕ) (n i : ℕ) → IsPair a → i < 2 → get_or (zip2 f a (n ∷ n ∷ [])) i 0 ≡ f (get_or a i 0) n
word_moved f a n i p h =
    get_or-zip2 f a (n ∷ n ∷ []) i 0 0 0 (omega (arith, p.len)) h ∙ ap (f (get_or a i 0)) (below_two (λ k. get_or {A = ℕ} (n ∷ n ∷ []) k 0 ≡ n) refl refl i h)

pub moved_right_is : (a : List ℕ) (n lane : ℕ) → IsPair a → n ≤ lane % 64 → lane_bit lane (zip2 (λ x k. x / 2 ^ k) a (n ∷ n ∷ [])) ≡ lane_bit (lane - n) a
unfolding lane_bit
moved_right_is a n lane p h =
    let i : ℕ = lane / 64 % 2 in
    let x : ℕ = get_or a i 0 in
    let word : (lane - n) / 64 % 2 ≡ i = ap (λ k. k % 2) (omega arith) in
    let place : n + (63 - lane % 64) ≡ 63 - (lane - n) % 64 = omega arith in
    ap (λ w. w / 2 ^ (63 - lane % 64) % 2 == 1) (word_moved (λ x k. x / 2 ^ k) a n i p (mod-lt (lane / 64) (omega arith)))
    ∙ ap (λ w. w % 2 == 1) (shr-shr x n (63 - lane % 64)) ∙ ap (λ j. x / 2 ^ j % 2 == 1) place
    ∙ ap (λ k. get_or a k 0 / 2 ^ (63 - (lane - n) % 64) % 2 == 1) (sym word)

bit_moved : (x n j : ℕ) → n ≤ j → j < 64 → x * 2 ^ n % 2 ^ 64 / 2 ^ j % 2 ≡ x / 2 ^ (j - n) % 2
bit_moved x n j low high =
    let y : ℕ = x * 2 ^ n in
    let split : y / 2 ^ 64 * 2 ^ 64 + y % 2 ^ 64 ≡ y = omega arith in
    sym (bit_at_cat_low (y / 2 ^ 64) 64 (y % 2 ^ 64) j high) ∙ ap (λ k. k / 2 ^ j % 2) (split ∙ omega arith)
    ∙ bit_at_cat_high x n 0 j (omega (arith, pow_pos n)) low

pub moved_left_is : (a : List ℕ) (n lane : ℕ) → IsPair a → lane % 64 + n < 64
    → lane_bit lane (zip2 (λ x k. x * 2 ^ k % 2 ^ 64) a (n ∷ n ∷ [])) ≡ lane_bit (lane + n) a
unfolding lane_bit
moved_left_is a n lane p h =
    let i : ℕ = lane / 64 % 2 in
    let x : ℕ = get_or a i 0 in
    let word : (lane + n) / 64 % 2 ≡ i = ap (λ k. k % 2) (omega arith) in
    let place : 63 - lane % 64 - n ≡ 63 - (lane + n) % 64 = omega arith in
    ap (λ w. w / 2 ^ (63 - lane % 64) % 2 == 1) (word_moved (λ x k. x * 2 ^ k % 2 ^ 64) a n i p (mod-lt (lane / 64) (omega arith)))
    ∙ ap (λ r. r == 1) (bit_moved x n (63 - lane % 64) (omega arith) (omega arith)) ∙ ap (λ j. x / 2 ^ j % 2 == 1) place
    ∙ ap (λ k. get_or a k 0 / 2 ^ (63 - (lane + n) % 64) % 2 == 1) (sym word)

-- what holds of 0 to 5
below_six : (P : ℕ → Type 0) → P 0 → P 1 → P 2 → P 3 → P 4 → P 5 → (k : ℕ) → k < 6 → P k
below_six P p0 p1 p2 p3 p4 p5 zero h = p0
below_six P p0 p1 p2 p3 p4 p5 (suc zero) h = p1
below_six P p0 p1 p2 p3 p4 p5 (suc (suc zero)) h = p2
below_six P p0 p1 p2 p3 p4 p5 (suc (suc (suc zero))) h = p3
below_six P p0 p1 p2 p3 p4 p5 (suc (suc (suc (suc zero)))) h = p4
below_six P p0 p1 p2 p3 p4 p5 (suc (suc (suc (suc (suc zero))))) h = p5
below_six P p0 p1 p2 p3 p4 p5 (suc (suc (suc (suc (suc (suc k)))))) h = absurd (omega arith)

mask_column : (k column : ℕ) → k < 6 → column < 64 → (get_or LOW_COLUMNS k 0 / 2 ^ (63 - column) % 2 == 1) ≡ (column / 2 ^ k % 2 == 0)
mask_column k column hk hc =
    below_six (λ k. (get_or LOW_COLUMNS k 0 / 2 ^ (63 - column) % 2 == 1) ≡ (column / 2 ^ k % 2 == 0))
    (agree_below (λ c. get_or LOW_COLUMNS 0 0 / 2 ^ (63 - c) % 2 == 1) (λ c. c / 2 ^ 0 % 2 == 0) 64 refl column hc)
    (agree_below (λ c. get_or LOW_COLUMNS 1 0 / 2 ^ (63 - c) % 2 == 1) (λ c. c / 2 ^ 1 % 2 == 0) 64 refl column hc)
    (agree_below (λ c. get_or LOW_COLUMNS 2 0 / 2 ^ (63 - c) % 2 == 1) (λ c. c / 2 ^ 2 % 2 == 0) 64 refl column hc)
    (agree_below (λ c. get_or LOW_COLUMNS 3 0 / 2 ^ (63 - c) % 2 == 1) (λ c. c / 2 ^ 3 % 2 == 0) 64 refl column hc)
    (agree_below (λ c. get_or LOW_COLUMNS 4 0 / 2 ^ (63 - c) % 2 == 1) (λ c. c / 2 ^ 4 % 2 == 0) 64 refl column hc)
    (agree_below (λ c. get_or LOW_COLUMNS 5 0 / 2 ^ (63 - c) % 2 == 1) (λ c. c / 2 ^ 5 % 2 == 0) 64 refl column hc)
    k hk

column_digit : (k lane : ℕ) → k < 6 → lane % 64 / 2 ^ k % 2 ≡ lane / 2 ^ k % 2
column_digit k lane h =
    below_six (λ k. lane % 64 / 2 ^ k % 2 ≡ lane / 2 ^ k % 2) (omega arith) (omega arith) (omega arith) (omega arith) (omega arith) (omega arith) k h

pub mask_is : (k lane : ℕ) → k < 6 → lane_bit lane (get_or LOW_COLUMNS k 0 ∷ get_or LOW_COLUMNS k 0 ∷ []) ≡ (digit k lane == 0)
unfolding lane_bit digit
mask_is k lane h =
    let m : ℕ = get_or LOW_COLUMNS k 0 in
    let i : ℕ = lane / 64 % 2 in
    ap (λ w. w / 2 ^ (63 - lane % 64) % 2 == 1) (below_two (λ i. get_or {A = ℕ} (m ∷ m ∷ []) i 0 ≡ m) refl refl i (mod-lt (lane / 64) (omega arith)))
    ∙ mask_column k (lane % 64) h (mod-lt lane (omega arith)) ∙ ap (λ d. d == 0) (column_digit k lane h)

-- a column with the digit 1 has one to its left, and one with the digit 0 has one to its right
pub room : (k lane : ℕ) → k < 6 → ((lane / 2 ^ k % 2 ≡ 1) → 2 ^ k ≤ lane % 64) × ((lane / 2 ^ k % 2 ≡ 0) → lane % 64 + 2 ^ k < 64)
room k lane h =
    below_six (λ k. ((lane / 2 ^ k % 2 ≡ 1) → 2 ^ k ≤ lane % 64) × ((lane / 2 ^ k % 2 ≡ 0) → lane % 64 + 2 ^ k < 64))
    (λ e. omega arith, λ e. omega arith) (λ e. omega arith, λ e. omega arith) (λ e. omega arith, λ e. omega arith)
    (λ e. omega arith, λ e. omega arith) (λ e. omega arith, λ e. omega arith) (λ e. omega arith, λ e. omega arith) k h

pub width_is : (k : ℕ) → k < 6 → 1 * 2 ^ k % 2 ^ 64 ≡ 2 ^ k
width_is k h = below_six (λ k. 1 * 2 ^ k % 2 ^ 64 ≡ 2 ^ k) refl refl refl refl refl refl k h

digit-lt : (k n : ℕ) → digit k n < 2
unfolding digit
digit-lt k n = mod-lt (n / 2 ^ k) (omega arith)

digit_part : (k n : ℕ) → k < 6 → digit k n * 2 ^ k ≤ n
unfolding digit
digit_part k n h = below_six (λ k. n / 2 ^ k % 2 * 2 ^ k ≤ n) (omega arith) (omega arith) (omega arith) (omega arith) (omega arith) (omega arith) k h

-- a row or a column with its own digit, and with the other one
with_own : (k n d : ℕ) → k < 6 → digit k n ≡ d → with_digit k n d ≡ n
unfolding digit with_digit
with_own k n d h e =
    let part : digit k n * 2 ^ k ≤ n = digit_part k n h in
    rw e (let own : d * 2 ^ k ≤ n = rw e at part in omega arith)

with_lower : (k n d : ℕ) → digit k n ≡ 1 → d ≡ 0 → with_digit k n d ≡ n - 2 ^ k
unfolding with_digit
with_lower k n d e z = rw (e, z) (omega arith)

with_higher : (k n d : ℕ) → digit k n ≡ 0 → d ≡ 1 → with_digit k n d ≡ n + 2 ^ k
unfolding with_digit
with_higher k n d e o = rw (e, o) (omega arith)

by_digit : (k n : ℕ) (P : Type 0) → (digit k n ≡ 0 → P) → (digit k n ≡ 1 → P) → P
by_digit k n P zero_case one_case = below_two (λ d. digit k n ≡ d → P) zero_case one_case (digit k n) (digit-lt k n) refl

columns_digit : (k : ℕ) → List ℕ
columns_digit k = get_or LOW_COLUMNS k 0 ∷ get_or LOW_COLUMNS k 0 ∷ []

chosen_low : (k lane : ℕ) (a b : Bool) → k < 6 → digit k lane ≡ 0 → (if lane_bit lane (columns_digit k) then a else b) ≡ a
unfolding columns_digit
chosen_low k lane a b h e = ap (λ (m : Bool). if m then a else b) (mask_is k lane h ∙ ap (λ d. d == 0) e)

chosen_high : (k lane : ℕ) (a b : Bool) → k < 6 → digit k lane ≡ 1 → (if lane_bit lane (columns_digit k) then a else b) ≡ b
unfolding columns_digit
chosen_high k lane a b h e = ap (λ (m : Bool). if m then a else b) (mask_is k lane h ∙ ap (λ d. d == 0) e)

-- the bit at a row and a lane where both have exchanged digit k
pub exchanged_bit : List (List ℕ) → ℕ → ℕ → ℕ → Bool
exchanged_bit rows k lane row = lane_bit (with_digit k lane (digit k row)) (get_or rows (with_digit k row (digit k lane)) [])

-- a row whose digit is 0
pub row_low : (rows : List (List ℕ)) (i k w : ℕ) (low high moved out : List ℕ) → k < 6 → w ≡ 2 ^ k → digit k i ≡ 0
    → low ≡ get_or rows i [] → high ≡ get_or rows (i + w) []
    → ((lane : ℕ) → w ≤ lane % 64 → lane_bit lane moved ≡ lane_bit (lane - w) high)
    → ((lane : ℕ) → lane_bit lane out ≡ (if lane_bit lane (get_or LOW_COLUMNS k 0 ∷ get_or LOW_COLUMNS k 0 ∷ []) then lane_bit lane low else lane_bit lane moved))
    → (lane : ℕ) → lane_bit lane out ≡ exchanged_bit rows k lane i
unfolding digit columns_digit exchanged_bit
row_low rows i k w low high moved out h ew own is_low is_high moves chooses lane =
    let there : ℕ → ℕ → Bool = λ l r. lane_bit l (get_or rows r []) in
    by_digit k lane (lane_bit lane out ≡ there (with_digit k lane (digit k i)) (with_digit k i (digit k lane)))
    (λ e. chooses lane ∙ chosen_low k lane (lane_bit lane low) (lane_bit lane moved) h e ∙ ap (lane_bit lane) is_low
    ∙ ap₂ there (sym (with_own k lane (digit k i) h (e ∙ sym own))) (sym (with_own k i (digit k lane) h (own ∙ sym e))))
    (λ e. chooses lane ∙ chosen_high k lane (lane_bit lane low) (lane_bit lane moved) h e
    ∙ moves lane (rw ew ((room k lane h).0 e)) ∙ ap (lane_bit (lane - w)) is_high ∙ ap (λ v. there (lane - v) (i + v)) ew
    ∙ ap₂ there (sym (with_lower k lane (digit k i) e own)) (sym (with_higher k i (digit k lane) own e)))

-- its partner, whose digit is 1
pub row_high : (rows : List (List ℕ)) (i k w : ℕ) (low high moved out : List ℕ) → k < 6 → w ≡ 2 ^ k → digit k (i + w) ≡ 1
    → low ≡ get_or rows i [] → high ≡ get_or rows (i + w) []
    → ((lane : ℕ) → lane % 64 + w < 64 → lane_bit lane moved ≡ lane_bit (lane + w) low)
    → ((lane : ℕ) → lane_bit lane out ≡ (if lane_bit lane (get_or LOW_COLUMNS k 0 ∷ get_or LOW_COLUMNS k 0 ∷ []) then lane_bit lane moved else lane_bit lane high))
    → (lane : ℕ) → lane_bit lane out ≡ exchanged_bit rows k lane (i + w)
unfolding digit columns_digit exchanged_bit
row_high rows i k w low high moved out h ew own is_low is_high moves chooses lane =
    let there : ℕ → ℕ → Bool = λ l r. lane_bit l (get_or rows r []) in
    let back : i ≡ i + w - w = omega arith in
    by_digit k lane (lane_bit lane out ≡ there (with_digit k lane (digit k (i + w))) (with_digit k (i + w) (digit k lane)))
    (λ e. chooses lane ∙ chosen_low k lane (lane_bit lane moved) (lane_bit lane high) h e
    ∙ moves lane (rw ew ((room k lane h).1 e)) ∙ ap (lane_bit (lane + w)) is_low ∙ ap (there (lane + w)) back ∙ ap (λ v. there (lane + v) (i + w - v)) ew
    ∙ ap₂ there (sym (with_higher k lane (digit k (i + w)) e own)) (sym (with_lower k (i + w) (digit k lane) own e)))
    (λ e. chooses lane ∙ chosen_high k lane (lane_bit lane moved) (lane_bit lane high) h e ∙ ap (lane_bit lane) is_high
    ∙ ap₂ there (sym (with_own k lane (digit k (i + w)) h (e ∙ sym own))) (sym (with_own k (i + w) (digit k lane) h (own ∙ sym e))))

-- ---- all six digits

-- the pair of a row, and its first row
pub pair_of : ℕ → ℕ → ℕ
pair_of k row = row / 2 ^ (k + 1) * 2 ^ k + row % 2 ^ k

low_of : ℕ → ℕ → ℕ
low_of k pair = pair + pair / 2 ^ k * 2 ^ k

pub low_is : (k pair : ℕ) → k < 6 → pair < 32 → pair + pair / 2 ^ k * 2 ^ k % 2 ^ 64 ≡ pair + pair / 2 ^ k * 2 ^ k
low_is k pair h small =
    below_six (λ k. pair + pair / 2 ^ k * 2 ^ k % 2 ^ 64 ≡ pair + pair / 2 ^ k * 2 ^ k)
    (omega arith) (omega arith) (omega arith) (omega arith) (omega arith) (omega arith) k h

pub low_within : (k pair : ℕ) → k < 6 → pair < 32 → pair + pair / 2 ^ k * 2 ^ k + 2 ^ k < 64
low_within k pair h small =
    below_six (λ k. pair + pair / 2 ^ k * 2 ^ k + 2 ^ k < 64) (omega arith) (omega arith) (omega arith) (omega arith) (omega arith) (omega arith) k h

pub low_digit : (k pair : ℕ) → k < 6 → pair < 32 → digit k (pair + pair / 2 ^ k * 2 ^ k) ≡ 0
unfolding digit
low_digit k pair h small =
    below_six (λ k. (pair + pair / 2 ^ k * 2 ^ k) / 2 ^ k % 2 ≡ 0) (omega arith) (omega arith) (omega arith) (omega arith) (omega arith) (omega arith) k h

pub high_digit : (k pair : ℕ) → k < 6 → pair < 32 → digit k (pair + pair / 2 ^ k * 2 ^ k + 2 ^ k) ≡ 1
unfolding digit
high_digit k pair h small =
    below_six (λ k. (pair + pair / 2 ^ k * 2 ^ k + 2 ^ k) / 2 ^ k % 2 ≡ 1) (omega arith) (omega arith) (omega arith) (omega arith) (omega arith) (omega arith) k h

pair_low : (k pair : ℕ) → k < 6 → pair < 32 → pair_of k (low_of k pair) ≡ pair
unfolding pair_of low_of
pair_low k pair h small =
    below_six (λ k. pair_of k (low_of k pair) ≡ pair) (omega arith) (omega arith) (omega arith) (omega arith) (omega arith) (omega arith) k h

pair_high : (k pair : ℕ) → k < 6 → pair < 32 → pair_of k (low_of k pair + 2 ^ k) ≡ pair
unfolding pair_of low_of
pair_high k pair h small =
    below_six (λ k. pair_of k (low_of k pair + 2 ^ k) ≡ pair) (omega arith) (omega arith) (omega arith) (omega arith) (omega arith) (omega arith) k h

pair_only : (k pair row : ℕ) → k < 6 → pair < 32 → row < 64 → pair_of k row ≡ pair → row ≢ low_of k pair → row ≢ low_of k pair + 2 ^ k → ⊥
unfolding pair_of low_of
pair_only k pair row h small below =
    below_six (λ k. pair_of k row ≡ pair → row ≢ low_of k pair → row ≢ low_of k pair + 2 ^ k → ⊥)
    (λ e n m. omega arith) (λ e n m. omega arith) (λ e n m. omega arith) (λ e n m. omega arith) (λ e n m. omega arith) (λ e n m. omega arith) k h

pair-lt : (k row : ℕ) → k < 6 → row < 64 → pair_of k row < 32
unfolding pair_of
pair-lt k row h below =
    below_six (λ k. pair_of k row < 32) (omega arith) (omega arith) (omega arith) (omega arith) (omega arith) (omega arith) k h

-- the rows of the first pairs have exchanged digit k, and the others are as they were
pub record Exchanges (old : List (List ℕ)) (k pairs : ℕ) (rows : List (List ℕ)) : Type 0 where
  pub len : length rows ≡ 64
  pub done : (lane row : ℕ) → row < 64 → pair_of k row < pairs → lane_bit lane (get_or rows row []) ≡ exchanged_bit old k lane row
  pub rest : (row : ℕ) → row < 64 → pairs ≤ pair_of k row → get_or rows row [] ≡ get_or old row []

pub Exchanges_none : (old : List (List ℕ)) (k : ℕ) → length old ≡ 64 → Exchanges old k 0 old
Exchanges_none old k len = record { len = len; done = λ lane row below few. absurd (omega arith); rest = λ row below none. refl }

-- a row of the next pair
pub next_low : (old : List (List ℕ)) (k pairs : ℕ) (rows : List (List ℕ)) → Exchanges old k pairs rows → k < 6 → pairs < 32
    → get_or rows (pairs + pairs / 2 ^ k * 2 ^ k) [] ≡ get_or old (pairs + pairs / 2 ^ k * 2 ^ k) []
unfolding low_of
next_low old k pairs rows so_far h small =
    so_far.rest (low_of k pairs) (omega (arith, low_within k pairs h small)) (omega (arith, pair_low k pairs h small))

pub next_high : (old : List (List ℕ)) (k pairs : ℕ) (rows : List (List ℕ)) → Exchanges old k pairs rows → k < 6 → pairs < 32
    → get_or rows (pairs + pairs / 2 ^ k * 2 ^ k + 2 ^ k) [] ≡ get_or old (pairs + pairs / 2 ^ k * 2 ^ k + 2 ^ k) []
unfolding low_of
next_high old k pairs rows so_far h small =
    so_far.rest (low_of k pairs + 2 ^ k) (low_within k pairs h small) (omega (arith, pair_high k pairs h small))

pub Exchanges_more : (old : List (List ℕ)) (k pairs : ℕ) (rows : List (List ℕ)) (i w : ℕ) (low high : List ℕ) → Exchanges old k pairs rows → k < 6
    → pairs < 32 → i ≡ pairs + pairs / 2 ^ k * 2 ^ k → w ≡ 2 ^ k
    → ((lane : ℕ) → lane_bit lane low ≡ exchanged_bit old k lane i)
    → ((lane : ℕ) → lane_bit lane high ≡ exchanged_bit old k lane (i + w))
    → Exchanges old k (pairs + 1) (set (set rows i low) (i + w) high)
unfolding low_of
Exchanges_more old k pairs rows i w low high so_far h small ei ew is_low is_high =
    let room : i + w < 64 = rw (ei, ew) (low_within k pairs h small) in
    let wide : length (set rows i low) ≡ 64 = length-set rows i low ∙ so_far.len in
    let power : 0 < 2 ^ k = pow_pos k in
    let apart : i ≢ i + w = omega (arith, ew) in
    let next : List (List ℕ) = set (set rows i low) (i + w) high in
    let at_low : get_or next i [] ≡ low =
    get_or-set_other (set rows i low) (i + w) i high [] apart ∙ get_or-set_same rows i low [] (omega (arith, so_far.len)) in
    let at_high : get_or next (i + w) [] ≡ high = get_or-set_same (set rows i low) (i + w) high [] (omega (arith, wide)) in
    let others : (row : ℕ) → row ≢ i → row ≢ i + w → get_or next row [] ≡ get_or rows row [] =
    λ row n m. get_or-set_other (set rows i low) (i + w) row high [] m ∙ get_or-set_other rows i row low [] n in
    record {
      len = length-set (set rows i low) (i + w) high ∙ wide;
      done = λ lane row below few.
          ⊎_elim (λ e. rw e (ap (lane_bit lane) at_low ∙ is_low lane))
          (λ n. ⊎_elim (λ e. rw e (ap (lane_bit lane) at_high ∙ is_high lane))
          (λ m. ap (lane_bit lane) (others row n m) ∙ so_far.done lane row below
          (let not_this : pair_of k row ≢ pairs = λ e. pair_only k pairs row h small below e (rw ei at n) (rw (ei, ew) at m) in omega arith))
          (cases_eq row (i + w))) (cases_eq row i);
      rest = λ row below above.
          let n : row ≢ i = λ e. (let p : pair_of k row ≡ pairs = ap (pair_of k) (e ∙ ei) ∙ pair_low k pairs h small in omega arith) in
          let m : row ≢ i + w = λ e. (let p : pair_of k row ≡ pairs = ap (pair_of k) (e ∙ ap₂ (λ a b. a + b) ei ew) ∙ pair_high k pairs h small in omega arith) in
          others row n m ∙ so_far.rest row below (omega arith);
    }

pub Exchanges_all : (old : List (List ℕ)) (k : ℕ) (rows : List (List ℕ)) → Exchanges old k 32 rows → k < 6 → (lane row : ℕ) → row < 64
    → lane_bit lane (get_or rows row []) ≡ lane_bit (with_digit k lane (digit k row)) (get_or old (with_digit k row (digit k lane)) [])
unfolding exchanged_bit
Exchanges_all old k rows all h lane row below = all.done lane row below (pair-lt k row h below)

-- n with the digits below k of m
unfoldable pub mixed : ℕ → ℕ → ℕ → ℕ
mixed k n m = n - n % 2 ^ k + m % 2 ^ k

mixed_more : (k n m : ℕ) → k < 6 → mixed k (with_digit k n (digit k m)) (with_digit k m (digit k n)) ≡ mixed (suc k) n m
unfolding mixed with_digit digit
mixed_more k n m h =
    below_six (λ k. mixed k (with_digit k n (digit k m)) (with_digit k m (digit k n)) ≡ mixed (suc k) n m)
    (omega arith) (omega arith) (omega arith) (omega arith) (omega arith) (omega arith) k h

with_digit-lt : (k n m : ℕ) → k < 6 → n < 64 → with_digit k n (digit k m) < 64
unfolding with_digit digit
with_digit-lt k n m h small =
    below_six (λ k. with_digit k n (digit k m) < 64) (omega arith) (omega arith) (omega arith) (omega arith) (omega arith) (omega arith) k h

-- the rows where rows and columns have exchanged their digits below k
pub record Turns (rows : List (List ℕ)) (k : ℕ) (out : List (List ℕ)) : Type 0 where
  pub at : (lane row : ℕ) → row < 64 → lane_bit lane (get_or out row []) ≡ lane_bit (mixed k lane row) (get_or rows (mixed k row lane) [])

pub Turns_none : (rows : List (List ℕ)) → Turns rows 0 rows
unfolding mixed
Turns_none rows = record {
  at = λ lane row h.
      let same : (n m : ℕ) → n ≡ n - n % 2 ^ 0 + m % 2 ^ 0 = λ n m. omega arith in
      ap₂ (λ l r. lane_bit l (get_or rows r [])) (same lane row) (same row lane);
}

pub Turns_more : (rows : List (List ℕ)) (k : ℕ) (out next : List (List ℕ)) → Turns rows k out → k < 6
    → ((lane row : ℕ) → row < 64 → lane_bit lane (get_or next row [])
    ≡ lane_bit (with_digit k lane (digit k row)) (get_or out (with_digit k row (digit k lane)) []))
    → Turns rows (k + 1) next
Turns_more rows k out next done h step = record {
  at = λ lane row small.
      let one_more : suc k ≡ k + 1 = omega arith in
      step lane row small
      ∙ done.at (with_digit k lane (digit k row)) (with_digit k row (digit k lane)) (with_digit-lt k row lane h small)
      ∙ ap₂ (λ l r. lane_bit l (get_or rows r [])) (mixed_more k lane row h ∙ ap (λ j. mixed j lane row) one_more)
      (mixed_more k row lane h ∙ ap (λ j. mixed j row lane) one_more);
}

pub Turns_all : (rows out : List (List ℕ)) → Turns rows 6 out
    → (lane row : ℕ) → row < 64 → lane_bit lane (get_or out row []) ≡ lane_bit (lane - lane % 64 + row) (get_or rows (lane % 64) [])
unfolding mixed
Turns_all rows out done lane row h =
    let column : lane - lane % 2 ^ 6 + row % 2 ^ 6 ≡ lane - lane % 64 + row = omega arith in
    let line : row - row % 2 ^ 6 + lane % 2 ^ 6 ≡ lane % 64 = omega arith in
    done.at lane row h ∙ ap₂ (λ l r. lane_bit l (get_or rows r [])) column line
