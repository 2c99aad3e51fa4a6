-- The MAC's chain over the whole blocks of a text, also of one in pieces.
use Rattle.std.proofs.Common.{◌≡◌, ℕ, zero, suc, ◌+◌, ◌-◌, ◌*◌, ◌/◌, ◌<◌, ◌≤◌, List, [], ◌∷◌, ◌++◌, length, take, drop, replicate, fold, bit_xor}
use Rattle.std.proofs.Common.{refl, sym, ap, ap₂, ◌∙◌, arith, length-append, length-drop, drop-drop}
use Rattle.std.proofs.lemmas.List.{drop-append-le, take-append-le}
use Rattle.std.proofs.lemmas.List.Sums.{fold-append}
use Rattle.arrayvec.specs.ArrayVec.{ArrayVec}
use Rattle.des_block.specs.Cipher.{word_bytes, des_encipher, des_decipher, tdes_encipher}
use Rattle.retail_mac.specs.Mac.{padded, blocks, padded_blocks, xor_bytes, zero_block, chained, retail_mac}
use Rattle.retail_mac.specs.Run.{IsRun}
use Rattle.retail_mac.specs.declared.run.MacRun.{MacRun}
use Rattle.retail_mac.proofs.Blocks.{xor-word_bytes, end_block}

-- the first blocks, and those behind them
pub blocks-add : (n m : ℕ) (bytes : List ℕ) → blocks (n + m) bytes ≡ blocks n bytes ++ blocks m (drop (8 * n) bytes)
unfolding blocks
blocks-add zero m bytes = ap (λ k. blocks k bytes) (omega arith)
blocks-add (suc n) m bytes =
    let count : suc n + m ≡ suc (n + m) = omega arith in
    let rest : drop (8 * n) (drop 8 bytes) ≡ drop (8 * suc n) bytes = drop-drop (8 * n) 8 bytes ∙ ap (λ k. drop k bytes) (omega arith) in
    ap (λ k. blocks k bytes) count ∙ ap (λ r. take 8 bytes ∷ r) (blocks-add n m (drop 8 bytes))
    ∙ ap (λ r. take 8 bytes ∷ blocks n (drop 8 bytes) ++ blocks m r) rest

-- blocks that end before more bytes begin
pub blocks-append-le : (n : ℕ) (bytes more : List ℕ) → 8 * n ≤ length bytes → blocks n (bytes ++ more) ≡ blocks n bytes
unfolding blocks
blocks-append-le zero bytes more h = refl
blocks-append-le (suc n) bytes more h =
    ap₂ (λ b r. b ∷ r) (take-append-le 8 bytes more (omega arith))
    (ap (blocks n) (drop-append-le 8 bytes more (omega arith)) ∙ blocks-append-le n (drop 8 bytes) more (omega (arith, length-drop 8 bytes)))

-- one step of the chain
pub chained-more : (key text : List ℕ) (start : List ℕ) (i chain word next : ℕ)
    → word_bytes chain ≡ fold (chained key) start (blocks i text)
    → word_bytes word ≡ take 8 (drop (8 * i) text) → word_bytes next ≡ des_encipher key (word_bytes (bit_xor chain word))
    → word_bytes next ≡ fold (chained key) start (blocks (i + 1) text)
unfolding chained blocks
chained-more key text start i chain word next so_far is_block step =
    let mixed : word_bytes (bit_xor chain word) ≡ xor_bytes (fold (chained key) start (blocks i text)) (take 8 (drop (8 * i) text)) =
    xor-word_bytes chain word ∙ ap₂ xor_bytes so_far is_block in
    step ∙ ap (des_encipher key) mixed
    ∙ sym (ap (fold (chained key) start) (blocks-add i 1 text) ∙ fold-append (chained key) start (blocks i text) (take 8 (drop (8 * i) text) ∷ []))

-- the whole blocks of the padded text, and the one that the padding ends
pub padded_blocks-end : (text : List ℕ) → let rest = drop (8 * (length text / 8)) text in
    padded_blocks text ≡ blocks (length text / 8) text ++ (rest ++ 0x80 ∷ replicate (7 - length rest) 0) ∷ []
unfolding padded_blocks padded blocks
padded_blocks-end text =
    let n : ℕ = length text / 8 in
    let rest : List ℕ = drop (8 * n) text in
    let end : List ℕ = 0x80 ∷ replicate (7 - length rest) 0 in
    blocks-add n 1 (padded text)
    ∙ ap₂ (λ front last. front ++ last ∷ []) (blocks-append-le n text _ (omega arith))
    (end_block text n refl ∙ ap (λ k. rest ++ 0x80 ∷ replicate (7 - k) 0) (sym (length-drop (8 * n) text)))

-- the MAC ends the chain with the last block
pub retail_mac-end : (key text before rest : List ℕ) → before ≡ fold (chained (take 8 key)) zero_block (blocks (length text / 8) text)
    → rest ≡ drop (8 * (length text / 8)) text
    → tdes_encipher key (xor_bytes before (rest ++ 0x80 ∷ replicate (7 - length rest) 0)) ≡ retail_mac key text
unfolding retail_mac chained tdes_encipher
retail_mac-end key text before rest before_is rest_is =
    let behind : List ℕ = drop (8 * (length text / 8)) text in
    let whole : List (List ℕ) = blocks (length text / 8) text in
    let last : List ℕ = behind ++ 0x80 ∷ replicate (7 - length behind) 0 in
    ap₂ (λ h r. tdes_encipher key (xor_bytes h (r ++ 0x80 ∷ replicate (7 - length r) 0))) before_is rest_is
    ∙ ap (λ b. des_encipher (take 8 key) (des_decipher (drop 8 key) b))
    (sym (ap (fold (chained (take 8 key)) zero_block) (padded_blocks-end text) ∙ fold-append (chained (take 8 key)) zero_block whole (last ∷ [])))

-- what is behind the whole blocks is no block
pub IsRun-short : (run : MacRun) (key text : List ℕ) → IsRun run key text → length run.part.items < 8
IsRun-short run key text is = omega (arith, ap length is.part, length-drop (8 * (length text / 8)) text)

-- a run that has taken one piece more
pub IsRun-more : (run : MacRun) (key text piece : List ℕ) (chain : ℕ) (part : ArrayVec ℕ) → IsRun run key text
    → word_bytes chain ≡ fold (chained (take 8 key)) (word_bytes run.chain) (blocks (length (run.part.items ++ piece) / 8) (run.part.items ++ piece))
    → part.items ≡ drop (8 * (length (run.part.items ++ piece) / 8)) (run.part.items ++ piece)
    → IsRun (record run { chain = chain; part = part }) key (text ++ piece)
IsRun-more run key text piece chain part is chain_is part_is =
    let n : ℕ = length text / 8 in
    let joined : List ℕ = run.part.items ++ piece in
    let m : ℕ = length joined / 8 in
    let behind : drop (8 * n) (text ++ piece) ≡ joined = drop-append-le (8 * n) text piece (omega arith) ∙ ap (λ r. r ++ piece) (sym is.part) in
    let count : length (text ++ piece) / 8 ≡ n + m =
    omega (arith, ap length is.part, length-drop (8 * n) text, length-append text piece, length-append run.part.items piece) in
    let front : blocks n (text ++ piece) ≡ blocks n text = blocks-append-le n text piece (omega arith) in
    let split : blocks (length (text ++ piece) / 8) (text ++ piece) ≡ blocks n text ++ blocks m joined =
    ap (λ k. blocks k (text ++ piece)) count ∙ blocks-add n m (text ++ piece) ∙ ap₂ (λ a b. a ++ blocks m b) front behind in
    let step : List ℕ → List (List ℕ) → List ℕ = fold (chained (take 8 key)) in
    record {
      keyed = is.keyed;
      chain = chain_is ∙ ap (λ start. step start (blocks m joined)) is.chain
          ∙ sym (ap (step zero_block) split ∙ fold-append (chained (take 8 key)) zero_block (blocks n text) (blocks m joined));
      part = part_is ∙ ap (drop (8 * m)) (sym behind) ∙ drop-drop (8 * m) (8 * n) (text ++ piece) ∙ ap (λ k. drop k (text ++ piece)) (omega arith);
    }

-- where a part of a block is held nothing is left to take, so the whole blocks are those of what is left
pub begun-blocks : (part rest : List ℕ) → length part < 8 → (0 < length rest → part ≡ [])
    → blocks (length rest / 8) rest ≡ blocks (length (part ++ rest) / 8) (part ++ rest)
unfolding blocks
begun-blocks part [] short none =
    let count : 0 ≡ length (part ++ []) / 8 = omega (arith, length-append part []) in
    ap (λ k. blocks k (part ++ [])) count
begun-blocks part (x ∷ rest) short none =
    ap (λ front. blocks (length (front ++ x ∷ rest) / 8) (front ++ x ∷ rest)) (sym (none (omega arith)))

pub begun-part : (part rest : List ℕ) → length part < 8 → (0 < length rest → part ≡ [])
    → part ++ drop (8 * (length rest / 8)) rest ≡ drop (8 * (length (part ++ rest) / 8)) (part ++ rest)
begun-part part [] short none =
    let count : 0 ≡ 8 * (length (part ++ []) / 8) = omega (arith, length-append part []) in
    ap (λ k. drop k (part ++ [])) count
begun-part part (x ∷ rest) short none =
    let empty : part ≡ [] = none (omega arith) in
    ap (λ front. front ++ drop (8 * (length (x ∷ rest) / 8)) (x ∷ rest)) empty
    ∙ ap (λ front. drop (8 * (length (front ++ x ∷ rest) / 8)) (front ++ x ∷ rest)) (sym empty)
