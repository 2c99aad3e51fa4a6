-- Words in their lanes: word j of 128 is in lane j.
use Rattle.std.proofs.Common.{◌≡◌, ℕ, ◌+◌, ◌-◌, ◌/◌, ◌%◌, ◌^◌, ◌<◌, ◌==◌, ◌≢◌, Bool, false, List, [], ◌∷◌, set, ⊎_elim}
use Rattle.std.proofs.Common.{length, get_or, refl, sym, ap, ap₂, ◌∙◌, arith, mod-lt, get_or-set_same, get_or-set_other, length-set, below_more}
use Rattle.std.proofs.lemmas.Bool.{cases_lt}
use Rattle.std.proofs.lemmas.List.{ext_get_or, length-map}
use Rattle.std.proofs.Common.{bit_xor, reverse}
use Rattle.std.proofs.lemmas.Nat.{xor_lt}
use Rattle.des_block.specs.Bits.{bits, number, xor_bits}
use Rattle.des_block.specs.Cipher.{ciphered, round_keys, word_bytes, block_bits, block_bytes, des_encipher, des_decipher}
use Rattle.des_block.proofs.Laws.{block_bits-word_bytes}
use Rattle.des_block.proofs.Digits.{digit_at, length-bits, bits-number, number-bits, number-lt, bits-xor}
use Rattle.des_lanes.specs.Lanes.{lane_bit, lane_bits, lane_word}
use Rattle.des_lanes.proofs.Pairs.{Fills, lane-at}

-- a row's bits: of two words, 64 words apart
pub row_bit : List ℕ → ℕ → ℕ → Bool
row_bit words lane row = lane_bit lane (get_or words row 0 ∷ get_or words (64 + row) 0 ∷ [])

pub row_step : (words : List ℕ) (lane row : ℕ) → lane_bit lane (get_or words row 0 ∷ get_or words (64 + row) 0 ∷ []) ≡ row_bit words lane row
unfolding row_bit
row_step words lane row = refl

-- the lane in the first row's place
cell : ℕ → ℕ → ℕ
cell lane row = lane - lane % 64 + row

cell_word : (lane row : ℕ) → lane < 128 → row < 64 → cell lane row / 64 % 2 ≡ lane / 64
unfolding cell
cell_word lane row h small = omega arith

cell_column : (lane row : ℕ) → row < 64 → cell lane row % 64 ≡ row
unfolding cell
cell_column lane row small = omega arith

cell_back : (lane row : ℕ) → row < 64 → cell lane row - cell lane row % 64 + lane % 64 ≡ lane
unfolding cell
cell_back lane row small = omega arith

word_of_row : (words : List ℕ) (lane : ℕ) → lane < 128 → get_or (get_or words (lane % 64) 0 ∷ get_or words (64 + lane % 64) 0 ∷ []) (lane / 64) 0
    ≡ get_or words lane 0
word_of_row words lane h =
    let pair : List ℕ = get_or words (lane % 64) 0 ∷ get_or words (64 + lane % 64) 0 ∷ [] in
    ⊎_elim
    (λ low. let first : lane / 64 ≡ 0 = omega arith in let place : lane % 64 ≡ lane = omega arith in
    ap (λ i. get_or pair i 0) first ∙ ap (λ i. get_or words i 0) place)
    (λ high. let second : lane / 64 ≡ 1 = omega arith in let place : 64 + lane % 64 ≡ lane = omega arith in
    ap (λ i. get_or pair i 0) second ∙ ap (λ i. get_or words i 0) place)
    (cases_lt lane 64)

pub into_is : (words : List ℕ) (rows out : List (List ℕ)) → Fills (row_bit words) 64 64 rows → length out ≡ 64
    → ((lane row : ℕ) → row < 64 → lane_bit lane (get_or out row []) ≡ lane_bit (lane - lane % 64 + row) (get_or rows (lane % 64) []))
    → (lane : ℕ) → lane < 128 → lane_bits lane out ≡ bits 64 (get_or words lane 0)
unfolding row_bit lane_bit lane_bits cell
into_is words rows out done len turns lane h =
    let w : ℕ = get_or words lane 0 in
    let wide : length (lane_bits lane out) ≡ 64 = length-map out (lane_bit lane) ∙ len in
    let pair : List ℕ = get_or words (lane % 64) 0 ∷ get_or words (64 + lane % 64) 0 ∷ [] in
    ext_get_or false (lane_bits lane out) (bits 64 w) (wide ∙ sym (length-bits 64 w))
    (λ row below.
    let small : row < 64 = omega (arith, wide) in
    sym (lane-at lane out row) ∙ turns lane row small ∙ done.at (cell lane row) (lane % 64) (mod-lt lane (omega arith))
    ∙ ap₂ (λ i c. get_or pair i 0 / 2 ^ (63 - c) % 2 == 1) (cell_word lane row h small) (cell_column lane row small)
    ∙ ap (λ v. v / 2 ^ (63 - row) % 2 == 1) (word_of_row words lane h) ∙ sym (digit_at 64 w row small))

-- the first i rows are written as two words each
pub record Splits (rows : List (List ℕ)) (i : ℕ) (words : List ℕ) : Type 0 where
  pub len : length words ≡ 128
  pub first : (k : ℕ) → k < i → get_or words k 0 ≡ get_or (get_or rows k []) 0 0
  pub second : (k : ℕ) → k < i → get_or words (64 + k) 0 ≡ get_or (get_or rows k []) 1 0
  pub low_fits : (k : ℕ) → k < i → get_or words k 0 < 2 ^ 64
  pub high_fits : (k : ℕ) → k < i → get_or words (64 + k) 0 < 2 ^ 64

pub Splits_none : (rows : List (List ℕ)) (words : List ℕ) → length words ≡ 128 → Splits rows 0 words
Splits_none rows words len = record {
  len = len;
  first = λ k h. absurd (omega arith);
  second = λ k h. absurd (omega arith);
  low_fits = λ k h. absurd (omega arith);
  high_fits = λ k h. absurd (omega arith);
}

pub Splits_more : (rows : List (List ℕ)) (i a b : ℕ) (words : List ℕ) → Splits rows i words → i < 64
    → a ≡ get_or (get_or rows i []) 0 0 → b ≡ get_or (get_or rows i []) 1 0 → a < 2 ^ 64 → b < 2 ^ 64 → Splits rows (i + 1) (set (set words i a) (64 + i) b)
Splits_more rows i a b words done h ea eb fa fb =
    let wide : length (set words i a) ≡ 128 = length-set words i a ∙ done.len in
    record {
      len = length-set (set words i a) (64 + i) b ∙ wide;
      first = below_more _ _
          (λ k below. let apart : k ≢ 64 + i = omega arith in let other : k ≢ i = omega arith in
          get_or-set_other (set words i a) (64 + i) k b 0 apart ∙ get_or-set_other words i k a 0 other ∙ done.first k below)
          (let apart : i ≢ 64 + i = omega arith in
          get_or-set_other (set words i a) (64 + i) i b 0 apart ∙ get_or-set_same words i a 0 (omega (arith, done.len)) ∙ ea);
      second = below_more _ _
          (λ k below. let apart : 64 + k ≢ 64 + i = omega arith in let other : 64 + k ≢ i = omega arith in
          get_or-set_other (set words i a) (64 + i) (64 + k) b 0 apart ∙ get_or-set_other words i (64 + k) a 0 other ∙ done.second k below)
          (get_or-set_same (set words i a) (64 + i) b 0 (omega (arith, wide)) ∙ eb);
      low_fits = below_more _ _
          (λ k below. let apart : k ≢ 64 + i = omega arith in let other : k ≢ i = omega arith in
          rw (get_or-set_other (set words i a) (64 + i) k b 0 apart ∙ get_or-set_other words i k a 0 other) (done.low_fits k below))
          (let apart : i ≢ 64 + i = omega arith in
          rw (get_or-set_other (set words i a) (64 + i) i b 0 apart ∙ get_or-set_same words i a 0 (omega (arith, done.len))) fa);
      high_fits = below_more _ _
          (λ k below. let apart : 64 + k ≢ 64 + i = omega arith in let other : 64 + k ≢ i = omega arith in
          rw (get_or-set_other (set words i a) (64 + i) (64 + k) b 0 apart ∙ get_or-set_other words i (64 + k) a 0 other) (done.high_fits k below))
          (rw (get_or-set_same (set words i a) (64 + i) b 0 (omega (arith, wide))) fb);
    }

pub Splits_fits : (rows : List (List ℕ)) (words : List ℕ) → Splits rows 64 words → (lane : ℕ) → lane < 128 → get_or words lane 0 < 2 ^ 64
Splits_fits rows words done lane h =
    ⊎_elim (λ low. done.low_fits lane low)
    (λ high. let place : lane ≡ 64 + (lane - 64) = omega arith in rw place (done.high_fits (lane - 64) (omega arith))) (cases_lt lane 64)

word_in_row : (rows : List (List ℕ)) (words : List ℕ) → Splits rows 64 words → (lane : ℕ) → lane < 128
    → get_or words lane 0 ≡ get_or (get_or rows (lane % 64) []) (lane / 64) 0
word_in_row rows words done lane h =
    ⊎_elim
    (λ low. let first : 0 ≡ lane / 64 = omega arith in let place : lane ≡ lane % 64 = omega arith in
    ap (λ i. get_or words i 0) place ∙ done.first (lane % 64) (omega arith) ∙ ap (λ i. get_or (get_or rows (lane % 64) []) i 0) first)
    (λ high. let second : 1 ≡ lane / 64 = omega arith in let place : lane ≡ 64 + lane % 64 = omega arith in
    ap (λ i. get_or words i 0) place ∙ done.second (lane % 64) (omega arith) ∙ ap (λ i. get_or (get_or rows (lane % 64) []) i 0) second)
    (cases_lt lane 64)

pub from_is : (pairs rows : List (List ℕ)) (words : List ℕ) → Splits rows 64 words → length pairs ≡ 64
    → ((lane row : ℕ) → row < 64 → lane_bit lane (get_or rows row []) ≡ lane_bit (lane - lane % 64 + row) (get_or pairs (lane % 64) []))
    → (lane : ℕ) → lane < 128 → bits 64 (get_or words lane 0) ≡ lane_bits lane pairs
unfolding lane_bit lane_bits
from_is pairs rows words done len turns lane h =
    let w : ℕ = get_or words lane 0 in
    let wide : length (lane_bits lane pairs) ≡ 64 = length-map pairs (lane_bit lane) ∙ len in
    let row_pair : List ℕ = get_or rows (lane % 64) [] in
    ext_get_or false (bits 64 w) (lane_bits lane pairs) (length-bits 64 w ∙ sym wide)
    (λ row below.
    let small : row < 64 = omega (arith, length-bits 64 w) in
    digit_at 64 w row small ∙ ap (λ v. v / 2 ^ (63 - row) % 2 == 1) (word_in_row rows words done lane h)
    ∙ sym (ap₂ (λ i c. get_or row_pair i 0 / 2 ^ (63 - c) % 2 == 1) (cell_word lane row h small) (cell_column lane row small))
    ∙ turns (cell lane row) (lane % 64) (mod-lt lane (omega arith))
    ∙ ap₂ (λ l r. lane_bit l (get_or pairs r [])) (cell_back lane row small) (cell_column lane row small) ∙ lane-at lane pairs row)

-- the word of a lane
pub lane_word-bits : (lane : ℕ) (pairs : List (List ℕ)) → length pairs ≡ 64 → bits 64 (lane_word lane pairs) ≡ lane_bits lane pairs
unfolding lane_word lane_bits
lane_word-bits lane pairs len = bits-number 64 (lane_bits lane pairs) (length-map pairs (lane_bit lane) ∙ len)

pub lane_word-lt : (lane : ℕ) (pairs : List (List ℕ)) → length pairs ≡ 64 → lane_word lane pairs < 2 ^ 64
unfolding lane_word lane_bits
lane_word-lt lane pairs len =
    let wide : length (lane_bits lane pairs) ≡ 64 = length-map pairs (lane_bit lane) ∙ len in
    rw wide at (number-lt (lane_bits lane pairs))

pub lane_word-from_bits : (lane : ℕ) (pairs : List (List ℕ)) (w : ℕ) → w < 2 ^ 64 → lane_bits lane pairs ≡ bits 64 w → lane_word lane pairs ≡ w
unfolding lane_word
lane_word-from_bits lane pairs w fits e =
    let whole : w % 2 ^ 64 ≡ w = omega arith in
    ap number e ∙ number-bits 64 w ∙ whole

pub lane_word-xor : (lane : ℕ) (a b out : List (List ℕ)) → length a ≡ 64 → length b ≡ 64 → length out ≡ 64
    → lane_bits lane out ≡ xor_bits (lane_bits lane a) (lane_bits lane b) → lane_word lane out ≡ bit_xor (lane_word lane a) (lane_word lane b)
lane_word-xor lane a b out la lb lo e =
    lane_word-from_bits lane out (bit_xor (lane_word lane a) (lane_word lane b)) (xor_lt 64 _ _ (lane_word-lt lane a la) (lane_word-lt lane b lb))
    (e ∙ ap₂ xor_bits (sym (lane_word-bits lane a la)) (sym (lane_word-bits lane b lb)) ∙ sym (bits-xor 64 (lane_word lane a) (lane_word lane b)))

-- the cipher of a lane's bits is DES of its word
pub enciphered : (lane : ℕ) (keys block out : List (List ℕ)) → length keys ≡ 64 → length block ≡ 64
    → lane_bits lane out ≡ ciphered (round_keys (lane_bits lane keys)) (lane_bits lane block)
    → word_bytes (lane_word lane out) ≡ des_encipher (word_bytes (lane_word lane keys)) (word_bytes (lane_word lane block))
unfolding des_encipher block_bytes lane_word
enciphered lane keys block out lk lb e =
    let is_key : lane_bits lane keys ≡ block_bits (word_bytes (lane_word lane keys)) =
    sym (block_bits-word_bytes (lane_word lane keys) (lane_word-lt lane keys lk) ∙ lane_word-bits lane keys lk) in
    let is_block : lane_bits lane block ≡ block_bits (word_bytes (lane_word lane block)) =
    sym (block_bits-word_bytes (lane_word lane block) (lane_word-lt lane block lb) ∙ lane_word-bits lane block lb) in
    ap (λ bs. word_bytes (number bs)) (e ∙ ap₂ (λ k b. ciphered (round_keys k) b) is_key is_block)

pub deciphered : (lane : ℕ) (keys block out : List (List ℕ)) → length keys ≡ 64 → length block ≡ 64
    → lane_bits lane out ≡ ciphered (reverse (round_keys (lane_bits lane keys))) (lane_bits lane block)
    → word_bytes (lane_word lane out) ≡ des_decipher (word_bytes (lane_word lane keys)) (word_bytes (lane_word lane block))
unfolding des_decipher block_bytes lane_word
deciphered lane keys block out lk lb e =
    let is_key : lane_bits lane keys ≡ block_bits (word_bytes (lane_word lane keys)) =
    sym (block_bits-word_bytes (lane_word lane keys) (lane_word-lt lane keys lk) ∙ lane_word-bits lane keys lk) in
    let is_block : lane_bits lane block ≡ block_bits (word_bytes (lane_word lane block)) =
    sym (block_bits-word_bytes (lane_word lane block) (lane_word-lt lane block lb) ∙ lane_word-bits lane block lb) in
    ap (λ bs. word_bytes (number bs)) (e ∙ ap₂ (λ k b. ciphered (reverse (round_keys k)) b) is_key is_block)
