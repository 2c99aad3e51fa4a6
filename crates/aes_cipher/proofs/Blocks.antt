-- The blocks of a text, and the chain over them.
use Rattle.std.proofs.Common.{◌≡◌, ℕ, zero, suc, ◌+◌, ◌-◌, ◌*◌, ◌/◌, ◌<◌, ◌≤◌, ◌==◌, true, false, List, [], ◌∷◌, ◌++◌}
use Rattle.std.proofs.Common.{length, take, drop, set, replicate, fold}
use Rattle.std.proofs.Common.{refl, sym, ap, ap₂, ◌∙◌, arith, length-drop, drop-drop}
use Rattle.std.specs.Int.Bits.{xor_zero_l}
use Rattle.std.proofs.lemmas.List.{drop-append-le, take-append-le, take_all, drop-replicate, set_at}
use Rattle.std.proofs.lemmas.Bool.{ne_eqb}
use Rattle.std.proofs.lemmas.List.Sums.{fold-append}
use borrow.Rule.Slice.PartMut.{put_mid}
use Rattle.aes_cipher.specs.Cipher.{xor_bytes, aes_encipher}
use Rattle.aes_cipher.specs.Mac.{zero_block, blocks, blocks_before_last, masked_last, subkey_1, subkey_2, chained, cmac}

-- the first blocks, and those behind them
pub blocks-add : (n m : ℕ) (bytes : List ℕ) → blocks (n + m) bytes ≡ blocks n bytes ++ blocks m (drop (16 * n) bytes)
unfolding blocks
blocks-add zero m bytes = ap (λ k. blocks k bytes) (omega arith)
blocks-add (suc n) m bytes =
    let count : suc n + m ≡ suc (n + m) = omega arith in
    let rest : drop (16 * n) (drop 16 bytes) ≡ drop (16 * suc n) bytes = drop-drop (16 * n) 16 bytes
    ∙ ap (λ k. drop k bytes) (omega arith) in
    ap (λ k. blocks k bytes) count ∙ ap (λ r. take 16 bytes ∷ r) (blocks-add n m (drop 16 bytes))
    ∙ ap (λ r. take 16 bytes ∷ blocks n (drop 16 bytes) ++ blocks m r) rest

-- blocks that end before more bytes begin
pub blocks-append-le : (n : ℕ) (bytes more : List ℕ) → 16 * n ≤ length bytes → blocks n (bytes ++ more) ≡ blocks n bytes
unfolding blocks
blocks-append-le zero bytes more h = refl
blocks-append-le (suc n) bytes more h =
    ap₂ (λ b r. b ∷ r) (take-append-le 16 bytes more (omega arith))
    (ap (blocks n) (drop-append-le 16 bytes more (omega arith))
    ∙ blocks-append-le n (drop 16 bytes) more (omega (arith, length-drop 16 bytes)))

-- one step of the chain
pub chained-more : (key text start chain block next : List ℕ) (i : ℕ) → chain ≡ fold (chained key) start (blocks i text)
    → block ≡ take 16 (drop (16 * i) text) → next ≡ aes_encipher key (xor_bytes chain block)
    → next ≡ fold (chained key) start (blocks (i + 1) text)
unfolding chained blocks
chained-more key text start chain block next i so_far is_block step =
    step ∙ ap₂ (λ a b. aes_encipher key (xor_bytes a b)) so_far is_block
    ∙ sym (ap (fold (chained key) start) (blocks-add i 1 text)
    ∙ fold-append (chained key) start (blocks i text) (take 16 (drop (16 * i) text) ∷ []))

-- the chain over a text of one block
pub one_block : (key start block : List ℕ) → length block ≡ 16
    → fold (chained key) start (blocks 1 block) ≡ chained key start block
unfolding blocks
one_block key start block len = ap (chained key start) (take_all 16 block (omega (arith, len)))

xor_zeros : (n : ℕ) (bytes : List ℕ) → length bytes ≡ n → xor_bytes (replicate n 0) bytes ≡ bytes
unfolding xor_bytes
xor_zeros zero [] len = refl
xor_zeros zero (byte ∷ bytes) len = absurd (omega (arith, len))
xor_zeros (suc n) [] len = absurd (omega (arith, len))
xor_zeros (suc n) (byte ∷ bytes) len = ap₂ (λ b r. b ∷ r) (xor_zero_l byte) (xor_zeros n bytes (omega (arith, len)))

-- a chain's first block is enciphered as it is
pub first_block : (key block : List ℕ) → length block ≡ 16 → chained key zero_block block ≡ aes_encipher key block
unfolding chained zero_block
first_block key block len = ap (aes_encipher key) (xor_zeros 16 block len)

-- the last block ends the chain
pub cmac_end : (key text before last : List ℕ) (n : ℕ) → n ≡ blocks_before_last text
    → before ≡ fold (chained key) zero_block (blocks n text)
    → last ≡ drop (16 * n) text → chained key before (masked_last key last) ≡ cmac key text
unfolding cmac
cmac_end key text before last n count before_is last_is =
    ap₂ (λ b r. chained key b (masked_last key r)) before_is last_is
    ∙ ap (λ k. chained key (fold (chained key) zero_block (blocks k text)) (masked_last key (drop (16 * k) text))) count

-- what is behind the blocks before the last is no more than a block
pub last_short : (text : List ℕ) → length (drop (16 * blocks_before_last text) text) ≤ 16
unfolding blocks_before_last
last_short text = omega (arith, length-drop (16 * ((length text - 1) / 16)) text)

-- the last block under its subkey, by its length
pub masked_whole : (key last : List ℕ) → length last ≡ 16 → xor_bytes last (subkey_1 key) ≡ masked_last key last
unfolding masked_last
masked_whole key last e =
    let test : (length last == 16) ≡ true = ap (λ k. k == 16) e in
    rw test refl

pub masked_filled : (key last : List ℕ) → length last < 16
    → xor_bytes (last ++ 128 ∷ replicate (15 - length last) 0) (subkey_2 key) ≡ masked_last key last
unfolding masked_last
masked_filled key last short =
    let test : (length last == 16) ≡ false = ne_eqb (length last) 16 (λ e. absurd (omega arith)) in
    rw test refl

-- a block of zeros with bytes and the byte 80 written over it
pub filled_is : (bytes copied : List ℕ) (j : ℕ) → length bytes < 16 → j ≡ length bytes → copied ≡ bytes
    → set (put_mid 0 j (replicate 16 0) copied) (length bytes) 128 ≡ bytes ++ 128 ∷ replicate (15 - length bytes) 0
filled_is bytes copied j short ej same =
    let count : 16 - j ≡ suc (15 - length bytes) = omega arith in
    let rest : drop j (replicate 16 0) ≡ 0 ∷ replicate (15 - length bytes) 0 = drop-replicate j 16 0
    ∙ ap (λ k. replicate k 0) count in
    ap (λ b. set (put_mid 0 j (replicate 16 0) b) (length bytes) 128) same
    ∙ ap (λ r. set (bytes ++ r) (length bytes) 128) rest
    ∙ set_at bytes 0 (replicate (15 - length bytes) 0) 128 (length bytes) refl
