-- Each row of key words, entry by entry, is what its definition computes.
use Rattle.std.proofs.Common.{◌≡◌, ℕ, ◌+◌, ◌-◌, ◌*◌, ◌^◌, ◌<◌, List, [], map, replicate, slice_index, slice_index_or, bit_xor}
use Rattle.std.proofs.Common.{bit_and, ◌/◌, ◌%◌, refl, ap, sym, ◌∙◌, arith}
use Rattle.std.specs.List.{range_with_len}
use Rattle.std.proofs.lemmas.Nat.{and_mask}
use Rattle.std.proofs.lemmas.List.{get_or-replicate}
use Rattle.std.proofs.lemmas.List.FromFn.{get_or-map-range_with_len}
use Rattle.des_block.specs.Bits.{bits, number, picked}
use Rattle.des_block.specs.Tables.{key_choice_left, key_choice_right}
use Rattle.des_block.specs.Schedule.{turns, key_numbers, word_choices, key_choice}
use Rattle.des_block.specs.declared.key_rows.TheConstants.{HIGH_ROWS, LOW_ROWS}
use Rattle.des_block.proofs.Linear.{word_picked, picked_additive}
use Rattle.des_block.proofs.ScheduleSteps.{byte_more}

-- what a value of some bits of the key, k places from the right, gives to word i
unfoldable pub row_word : ℕ → ℕ → ℕ → ℕ
row_word k v i = word_picked 64 (key_choice i) (v * 2 ^ k)

-- the rows of the first n values, for bits that stand k places higher than the lowest bit of each byte
unfoldable pub rows : ℕ → ℕ → List (List (List ℕ))
rows k n = map (λ j. map (λ v. map (row_word (k + (56 - 8 * j)) v) (range_with_len 0 32)) (range_with_len 0 n)) (range_with_len 0 8)

pub high_rows : HIGH_ROWS ≡ rows 4 16
unfolding bits number picked key_choice_left key_choice_right turns key_numbers word_choices key_choice row_word rows
high_rows = refl

pub low_rows : LOW_ROWS ≡ rows 1 8
unfolding bits number picked key_choice_left key_choice_right turns key_numbers word_choices key_choice row_word rows
low_rows = refl

pub row_at : (table : List (List (List ℕ))) (k n j v i : ℕ) → table ≡ rows k n → j < 8 → v < n → i < 32
    → slice_index (slice_index_or (slice_index_or table j []) v []) i ≡ row_word (k + (56 - 8 * j)) v i
unfolding rows
row_at table k n j v i e hj hv hi =
    ap (λ t. slice_index (slice_index_or (slice_index_or t j []) v []) i) e
    ∙ ap (λ t. slice_index (slice_index_or t v []) i)
    (get_or-map-range_with_len (λ j. map (λ v. map (row_word (k + (56 - 8 * j)) v) (range_with_len 0 32)) (range_with_len 0 n)) 0 8 j j [] hj (omega arith))
    ∙ ap (λ t. slice_index t i) (get_or-map-range_with_len (λ v. map (row_word (k + (56 - 8 * j)) v) (range_with_len 0 32)) 0 n v v [] hv (omega arith))
    ∙ get_or-map-range_with_len (row_word (k + (56 - 8 * j)) v) 0 32 i i 0 hi (omega arith)

-- the lowest bit of a byte gives nothing
lowest_rows : map (λ j. map (row_word (56 - 8 * j) 1) (range_with_len 0 32)) (range_with_len 0 8) ≡ replicate 8 (replicate 32 0)
unfolding bits number picked key_choice_left key_choice_right turns key_numbers word_choices key_choice row_word
lowest_rows = refl

lowest_at : (j i : ℕ) → j < 8 → i < 32 → word_picked 64 (key_choice i) (1 * 2 ^ (56 - 8 * j)) ≡ 0
unfolding row_word
lowest_at j i hj hi =
    sym (ap (λ t. slice_index t i)
    (get_or-map-range_with_len (λ j. map (row_word (56 - 8 * j) 1) (range_with_len 0 32)) 0 8 j j [] hj (omega arith))
    ∙ get_or-map-range_with_len (row_word (56 - 8 * j) 1) 0 32 i i 0 hi (omega arith))
    ∙ ap (λ t. slice_index (slice_index_or t j []) i) lowest_rows
    ∙ ap (λ t. slice_index t i) (get_or-replicate 8 j (replicate 32 0) [] hj) ∙ get_or-replicate 32 i 0 0 hi

-- the word of a key's first bytes, and what the next byte's rows give
pub word_more : (x j i word : ℕ) → j < 8 → i < 32 → word ≡ word_picked 64 (key_choice i) (x / 2 ^ (64 - 8 * j) * 2 ^ (64 - 8 * j))
    → bit_xor word (bit_xor (slice_index (slice_index_or (slice_index_or HIGH_ROWS j []) (bit_and (x / 2 ^ (56 - 8 * j)) 255 / 2 ^ 4) []) i)
    (slice_index (slice_index_or (slice_index_or LOW_ROWS j []) (bit_and (bit_and (x / 2 ^ (56 - 8 * j)) 255 / 2 ^ 1) 7) []) i))
    ≡ word_picked 64 (key_choice i) (x / 2 ^ (64 - 8 * (j + 1)) * 2 ^ (64 - 8 * (j + 1)))
unfolding row_word
word_more x j i word hj hi so_far =
    let k : ℕ = 56 - 8 * j in
    let y : ℕ = x / 2 ^ k in
    let f : ℕ → ℕ = word_picked 64 (key_choice i) in
    let here : 64 - 8 * j ≡ 8 + k = omega arith in
    let next : k ≡ 64 - 8 * (j + 1) = omega arith in
    let byte : bit_and y 255 ≡ y % 256 = and_mask y 8 in
    let high : bit_and y 255 / 2 ^ 4 ≡ y % 256 / 16 = ap (λ b. b / 16) byte in
    let low : bit_and (bit_and y 255 / 2 ^ 1) 7 ≡ y % 256 / 2 % 8 = and_mask (bit_and y 255 / 2 ^ 1) 3 ∙ ap (λ b. b / 2 % 8) byte in
    byte_more f x k word _ _ (picked_additive 64 (key_choice i)) (lowest_at j i hj hi)
    (so_far ∙ ap (λ n. f (x / 2 ^ n * 2 ^ n)) here)
    (ap (λ v. slice_index (slice_index_or (slice_index_or HIGH_ROWS j []) v []) i) high ∙ row_at HIGH_ROWS 4 16 j (y % 256 / 16) i high_rows hj
    (omega arith) hi)
    (ap (λ v. slice_index (slice_index_or (slice_index_or LOW_ROWS j []) v []) i) low ∙ row_at LOW_ROWS 1 8 j (y % 256 / 2 % 8) i low_rows hj (omega arith) hi)
    ∙ ap (λ n. f (x / 2 ^ n * 2 ^ n)) next
