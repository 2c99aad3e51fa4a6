-- The blocks of a padded text, read as words, and both chains over them.
use Rattle.std.proofs.Common.{⊎_elim, w64, get_or-take, get_or-drop, length-take, ◌≡◌, ℕ, zero, suc, ◌+◌, ◌-◌, ◌*◌, ◌/◌, ◌%◌, ◌^◌, ◌<◌, ◌≤◌, ◌↔◌}
use Rattle.std.proofs.Common.{List, [], ◌∷◌, ◌++◌, length, take, drop, set, replicate, fold, get_or, slice_index, bit_xor, refl, sym, ap, ap₂, ◌∙◌}
use Rattle.std.proofs.Common.{arith, append_assoc, append-nil, length-append, length-drop, drop-drop}
use Rattle.std.proofs.lemmas.List.{get_or_past, drop_more, drop-append-le, take-append-le, take_all, drop-replicate, set_at, length-replicate}
use Rattle.std.proofs.lemmas.Nat.{xor_shr, xor_mod}
use Rattle.std.proofs.lemmas.Bool.{cases_lt}
use Rattle.std.specs.Int.{from_be_bytes, to_be_bytes}
use Rattle.des_block.proofs.Laws.{length-des_encipher, word_bytes-from_be_bytes}
use borrow.Rule.Slice.PartMut.{put_mid}
use Rattle.des_block.specs.Cipher.{word_bytes, tdes_encipher}
use Rattle.retail_mac.specs.Mac.{padded, blocks, padded_blocks, xor_bytes, zero_block, retail_mac, cbc_from, cbc}
use Rattle.retail_mac.specs.Opening.{AreBytes}

-- eight bytes of a text, one by one
eight_at : (text : List ℕ) (at : ℕ) → at + 8 ≤ length text
    → slice_index text at ∷ slice_index text (at + 1) ∷ slice_index text (at + 2) ∷ slice_index text (at + 3) ∷ slice_index text (at + 4)
    ∷ slice_index text (at + 5) ∷ slice_index text (at + 6) ∷ slice_index text (at + 7) ∷ [] ≡ take 8 (drop at text)
eight_at text at h =
    let next : (k m : ℕ) → k < 8 → at + k + 1 ≡ m → drop (at + k) text ≡ slice_index text (at + k) ∷ drop m text =
    λ k m l e. drop_more text (at + k) 0 (omega arith) ∙ ap (λ n. slice_index text (at + k) ∷ drop n text) e in
    let start : drop at text ≡ slice_index text at ∷ drop (at + 1) text = drop_more text at 0 (omega arith) in
    sym (ap (take 8) (start ∙ ap (λ r. slice_index text at ∷ r) (
    next 1 (at + 2) (omega arith) (omega arith) ∙ ap (λ r. slice_index text (at + 1) ∷ r) (
    next 2 (at + 3) (omega arith) (omega arith) ∙ ap (λ r. slice_index text (at + 2) ∷ r) (
    next 3 (at + 4) (omega arith) (omega arith) ∙ ap (λ r. slice_index text (at + 3) ∷ r) (
    next 4 (at + 5) (omega arith) (omega arith) ∙ ap (λ r. slice_index text (at + 4) ∷ r) (
    next 5 (at + 6) (omega arith) (omega arith) ∙ ap (λ r. slice_index text (at + 5) ∷ r) (
    next 6 (at + 7) (omega arith) (omega arith) ∙ ap (λ r. slice_index text (at + 6) ∷ r) (
    next 7 (at + 8) (omega arith) (omega arith))))))))))

-- eight pushes append eight bytes
pub eight_pushed : (before bytes o1 o2 o3 o4 o5 o6 o7 o8 : List ℕ) (word : ℕ) → bytes ≡ to_be_bytes w64 word
    → o1 ≡ before ++ slice_index bytes 0 ∷ [] → o2 ≡ o1 ++ slice_index bytes 1 ∷ [] → o3 ≡ o2 ++ slice_index bytes 2 ∷ []
    → o4 ≡ o3 ++ slice_index bytes 3 ∷ []
    → o5 ≡ o4 ++ slice_index bytes 4 ∷ [] → o6 ≡ o5 ++ slice_index bytes 5 ∷ [] → o7 ≡ o6 ++ slice_index bytes 6 ∷ [] → o8 ≡ o7 ++ slice_index bytes 7 ∷ []
    → o8 ≡ before ++ word_bytes word
unfolding word_bytes
eight_pushed before bytes o1 o2 o3 o4 o5 o6 o7 o8 word e e1 e2 e3 e4 e5 e6 e7 e8 =
    let b : ℕ → ℕ = λ i. slice_index bytes i in
    let j2 : o2 ≡ before ++ b 0 ∷ b 1 ∷ [] = e2 ∙ ap (λ o. o ++ b 1 ∷ []) e1 ∙ append_assoc before (b 0 ∷ []) (b 1 ∷ []) in
    let j3 : o3 ≡ before ++ b 0 ∷ b 1 ∷ b 2 ∷ [] = e3 ∙ ap (λ o. o ++ b 2 ∷ []) j2 ∙ append_assoc before (b 0 ∷ b 1 ∷ []) (b 2 ∷ []) in
    let j4 : o4 ≡ before ++ b 0 ∷ b 1 ∷ b 2 ∷ b 3 ∷ [] = e4 ∙ ap (λ o. o ++ b 3 ∷ []) j3 ∙ append_assoc before (b 0 ∷ b 1 ∷ b 2 ∷ []) (b 3 ∷ []) in
    let j5 : o5 ≡ before ++ b 0 ∷ b 1 ∷ b 2 ∷ b 3 ∷ b 4 ∷ [] = e5 ∙ ap (λ o. o ++ b 4 ∷ []) j4
    ∙ append_assoc before (b 0 ∷ b 1 ∷ b 2 ∷ b 3 ∷ []) (b 4 ∷ []) in
    let j6 : o6 ≡ before ++ b 0 ∷ b 1 ∷ b 2 ∷ b 3 ∷ b 4 ∷ b 5 ∷ [] = e6 ∙ ap (λ o. o ++ b 5 ∷ []) j5
    ∙ append_assoc before (b 0 ∷ b 1 ∷ b 2 ∷ b 3 ∷ b 4 ∷ []) (b 5 ∷ []) in
    let j7 : o7 ≡ before ++ b 0 ∷ b 1 ∷ b 2 ∷ b 3 ∷ b 4 ∷ b 5 ∷ b 6 ∷ [] = e7 ∙ ap (λ o. o ++ b 6 ∷ []) j6
    ∙ append_assoc before (b 0 ∷ b 1 ∷ b 2 ∷ b 3 ∷ b 4 ∷ b 5 ∷ []) (b 6 ∷ []) in
    e8 ∙ ap (λ o. o ++ b 7 ∷ []) j7 ∙ append_assoc before (b 0 ∷ b 1 ∷ b 2 ∷ b 3 ∷ b 4 ∷ b 5 ∷ b 6 ∷ []) (b 7 ∷ [])
    ∙ ap (λ (bs : List ℕ). before ++ slice_index bs 0 ∷ slice_index bs 1 ∷ slice_index bs 2 ∷ slice_index bs 3
    ∷ slice_index bs 4 ∷ slice_index bs 5 ∷ slice_index bs 6 ∷ slice_index bs 7 ∷ []) e

-- a block of zeros with the rest of a text and the byte 80 written over it
last_block : (ys : List ℕ) (n j : ℕ) → length ys ≡ n → j ≡ n → n < 8 → set (put_mid 0 j (replicate 8 0) ys) n 128 ≡ ys ++ 128 ∷ replicate (7 - n) 0
last_block ys n j len e h =
    let count : 8 - j ≡ suc (7 - n) = omega arith in
    let rest : drop j (replicate 8 0) ≡ 0 ∷ replicate (7 - n) 0 = drop-replicate j 8 0 ∙ ap (λ k. replicate k 0) count in
    ap (λ r. set (ys ++ r) n 128) rest ∙ set_at ys 0 (replicate (7 - n) 0) 128 n len

part_small : (text : List ℕ) (at : ℕ) → AreBytes text → AreBytes (take 8 (drop at text))
part_small text at small i =
    ⊎_elim (λ l. Rattle.std.proofs.Common.subst (λ x. x < 256) (sym (get_or-take 8 (drop at text) i 0 l ∙ get_or-drop at text i 0)) (small (at + i)))
    (λ l. Rattle.std.proofs.Common.subst (λ x. x < 256) (sym (get_or_past (take 8 (drop at text)) i 0 (omega (arith, length-take 8 (drop at text)))))
    (omega arith))
    (cases_lt i 8)

pub zeros_small : (m : ℕ) → AreBytes (replicate m 0)
zeros_small zero i = omega arith
zeros_small (suc m) zero = omega arith
zeros_small (suc m) (suc i) = zeros_small m i

pub end_small : (ys : List ℕ) (m : ℕ) → AreBytes ys → AreBytes (ys ++ 128 ∷ replicate m 0)
end_small [] m small zero = omega arith
end_small [] m small (suc i) = zeros_small m i
end_small (y ∷ ys) m small zero = small 0
end_small (y ∷ ys) m small (suc i) = end_small ys m (λ k. small (suc k)) i

pub word_at_is : (text : List ℕ) (at w : ℕ) → at + 8 ≤ length text → AreBytes text
    → w ≡ from_be_bytes w64 (slice_index text at ∷ slice_index text (at + 1) ∷ slice_index text (at + 2)
    ∷ slice_index text (at + 3) ∷ slice_index text (at + 4)
    ∷ slice_index text (at + 5) ∷ slice_index text (at + 6) ∷ slice_index text (at + 7) ∷ [])
    → word_bytes w ≡ take 8 (drop at text)
word_at_is text at w h small e =
    word_bytes-from_be_bytes (take 8 (drop at text)) w (omega (arith, length-take 8 (drop at text), length-drop at text)) (part_small text at small)
    (e ∙ ap (from_be_bytes w64) (eight_at text at h))

-- a rest of fewer than eight bytes, padded to a block
pub last_word_is : (rest copied : List ℕ) (j w : ℕ) → length rest < 8 → AreBytes rest → j ≡ length rest → copied ≡ rest
    → w ≡ from_be_bytes w64 (set (put_mid 0 j (replicate 8 0) copied) (length rest) 128)
    → word_bytes w ≡ rest ++ 128 ∷ replicate (7 - length rest) 0
last_word_is rest copied j w short small ej same e =
    let n : ℕ = length rest in
    let whole : length (rest ++ 128 ∷ replicate (7 - n) 0) ≡ 8 =
    omega (arith, length-append rest (128 ∷ replicate (7 - n) 0), length-replicate {A = ℕ} (7 - n) 0) in
    word_bytes-from_be_bytes (rest ++ 128 ∷ replicate (7 - n) 0) w whole (end_small rest (7 - n) small)
    (e ∙ ap (from_be_bytes w64) (ap (λ bytes. set (put_mid 0 j (replicate 8 0) bytes) n 128) same ∙ last_block rest n j refl ej short))

-- a MAC has eight bytes
pub length-retail_mac : (key text : List ℕ) → length (retail_mac key text) ≡ 8
unfolding retail_mac
length-retail_mac key text = length-des_encipher _ _

pub length-padded : (text : List ℕ) → length (padded text) ≡ 8 * (length text / 8) + 8
unfolding padded
length-padded text = omega (arith, length-append text (0x80 ∷ replicate (7 - length text % 8) 0), length-replicate {A = ℕ} (7 - length text % 8) 0)

-- a whole block of the text is one of the padded text
pub whole_block : (text : List ℕ) (i : ℕ) → i < length text / 8 → take 8 (drop (8 * i) (padded text)) ≡ take 8 (drop (8 * i) text)
unfolding padded
whole_block text i h =
    let end : List ℕ = 0x80 ∷ replicate (7 - length text % 8) 0 in
    ap (take 8) (drop-append-le (8 * i) text end (omega arith)) ∙ take-append-le 8 (drop (8 * i) text) end (omega (arith, length-drop (8 * i) text))

-- the last block
pub end_block : (text : List ℕ) (n : ℕ) → n ≡ length text / 8
    → take 8 (drop (8 * n) (padded text)) ≡ drop (8 * n) text ++ 0x80 ∷ replicate (7 - (length text - 8 * n)) 0
unfolding padded
end_block text n e =
    let end : List ℕ = 0x80 ∷ replicate (7 - length text % 8) 0 in
    let count : length text % 8 ≡ length text - 8 * n = omega arith in
    let joined : drop (8 * n) (text ++ end) ≡ drop (8 * n) text ++ end = drop-append-le (8 * n) text end (omega arith) in
    let len : length (drop (8 * n) text ++ end) ≡ 8 =
    omega (arith, length-append (drop (8 * n) text) end, length-drop (8 * n) text, length-replicate {A = ℕ} (7 - length text % 8) 0) in
    ap (take 8) joined ∙ take_all 8 (drop (8 * n) text ++ end) (omega arith) ∙ ap (λ k. drop (8 * n) text ++ 0x80 ∷ replicate (7 - k) 0) count

-- the words of two blocks
pub xor-word_bytes : (a b : ℕ) → word_bytes (bit_xor a b) ≡ xor_bytes (word_bytes a) (word_bytes b)
unfolding word_bytes xor_bytes
xor-word_bytes a b =
    let byte : (k : ℕ) → bit_xor a b / 2 ^ k % 2 ^ 8 ≡ bit_xor (a / 2 ^ k % 2 ^ 8) (b / 2 ^ k % 2 ^ 8) =
    λ k. ap (λ x. x % 2 ^ 8) (xor_shr a b k) ∙ xor_mod (a / 2 ^ k) (b / 2 ^ k) 8 in
    ap₂ (λ x r. x ∷ r) (byte 56) (ap₂ (λ x r. x ∷ r) (byte 48) (ap₂ (λ x r. x ∷ r) (byte 40) (ap₂ (λ x r. x ∷ r) (byte 32)
    (ap₂ (λ x r. x ∷ r) (byte 24) (ap₂ (λ x r. x ∷ r) (byte 16) (ap₂ (λ x r. x ∷ r) (byte 8) (ap (λ x. x ∷ []) (xor_mod a b 8))))))))

pub zero_word : word_bytes 0 ≡ zero_block
unfolding word_bytes zero_block
zero_word = refl

-- the blocks that are left from block i on
pub blocks_left : List ℕ → ℕ → List (List ℕ)
blocks_left text i = blocks (length text / 8 + 1 - i) (drop (8 * i) (padded text))

pub blocks_left_all : (text : List ℕ) → blocks_left text 0 ≡ padded_blocks text
unfolding blocks_left padded_blocks
blocks_left_all text = ap (λ k. blocks k (padded text)) (omega arith)

pub blocks_left_more : (text : List ℕ) (i : ℕ) → i < length text / 8 → blocks_left text i ≡ take 8 (drop (8 * i) text) ∷ blocks_left text (i + 1)
unfolding blocks_left blocks
blocks_left_more text i h =
    let count : length text / 8 + 1 - i ≡ suc (length text / 8 + 1 - (i + 1)) = omega arith in
    let rest : drop 8 (drop (8 * i) (padded text)) ≡ drop (8 * (i + 1)) (padded text) =
    drop-drop 8 (8 * i) (padded text) ∙ ap (λ k. drop k (padded text)) (omega arith) in
    ap (λ k. blocks k (drop (8 * i) (padded text))) count
    ∙ ap₂ (λ b r. b ∷ blocks (length text / 8 + 1 - (i + 1)) r) (whole_block text i h) rest

pub blocks_left_end : (text : List ℕ) (n : ℕ) → n ≡ length text / 8
    → blocks_left text n ≡ (drop (8 * n) text ++ 0x80 ∷ replicate (7 - (length text - 8 * n)) 0) ∷ []
unfolding blocks_left blocks
blocks_left_end text n e =
    let count : length text / 8 + 1 - n ≡ 1 = omega arith in
    ap (λ k. blocks k (drop (8 * n) (padded text))) count ∙ ap (λ b. b ∷ []) (end_block text n e)

-- what CBC has written, and the blocks that are left
pub record Enciphers (key text before : List ℕ) (i chain : ℕ) (out : List ℕ) : Type 0 where
  pub len : length out ≡ length before + 8 * i
  pub joined : out ++ cbc_from key (word_bytes chain) (blocks_left text i) ≡ before ++ cbc key text

pub Enciphers_none : (key text before : List ℕ) → Enciphers key text before 0 0 before
unfolding cbc
Enciphers_none key text before =
    record { len = omega arith; joined = ap₂ (λ h bs. before ++ cbc_from key h bs) zero_word (blocks_left_all text) }

length-word_bytes : (n : ℕ) → length (word_bytes n) ≡ 8
unfolding word_bytes
length-word_bytes n = refl

pub Enciphers_more : (key text before : List ℕ) (i chain word next : ℕ) (out : List ℕ) → Enciphers key text before i chain out → i < length text / 8
    → word_bytes word ≡ take 8 (drop (8 * i) text) → word_bytes next ≡ tdes_encipher key (word_bytes (bit_xor chain word))
    → (new : List ℕ) → new ≡ out ++ word_bytes next → Enciphers key text before (i + 1) next new
unfolding cbc_from
Enciphers_more key text before i chain word next out done h ew en new eo =
    let step : tdes_encipher key (xor_bytes (word_bytes chain) (take 8 (drop (8 * i) text))) ≡ word_bytes next =
    sym (en ∙ ap (tdes_encipher key) (xor-word_bytes chain word ∙ ap (xor_bytes (word_bytes chain)) ew)) in
    let rest : cbc_from key (word_bytes chain) (blocks_left text i) ≡ word_bytes next ++ cbc_from key (word_bytes next) (blocks_left text (i + 1)) =
    ap (cbc_from key (word_bytes chain)) (blocks_left_more text i h) ∙ ap (λ b. b ++ cbc_from key b (blocks_left text (i + 1))) step in
    let was : length out ≡ length before + 8 * i = done.len in
    record {
      len = omega (arith, ap length eo, length-append out (word_bytes next), length-word_bytes next);
      joined = ap (λ o. o ++ cbc_from key (word_bytes next) (blocks_left text (i + 1))) eo
          ∙ append_assoc out (word_bytes next) (cbc_from key (word_bytes next) (blocks_left text (i + 1))) ∙ ap (λ r. out ++ r) (sym rest) ∙ done.joined;
    }

pub Enciphers_all : (key text before : List ℕ) (i n chain word next : ℕ) (out : List ℕ) → Enciphers key text before i chain out → i ≡ n → n ≡ length text / 8
    → word_bytes word ≡ drop (8 * n) text ++ 0x80 ∷ replicate (7 - (length text - 8 * n)) 0
    → word_bytes next ≡ tdes_encipher key (word_bytes (bit_xor chain word))
    → (new : List ℕ) → new ≡ out ++ word_bytes next → new ≡ before ++ cbc key text
unfolding cbc_from
Enciphers_all key text before i n chain word next out done ei e ew en new eo =
    let step : tdes_encipher key (xor_bytes (word_bytes chain) (drop (8 * n) text ++ 0x80 ∷ replicate (7 - (length text - 8 * n)) 0)) ≡ word_bytes next =
    sym (en ∙ ap (tdes_encipher key) (xor-word_bytes chain word ∙ ap (xor_bytes (word_bytes chain)) ew)) in
    let rest : cbc_from key (word_bytes chain) (blocks_left text i) ≡ word_bytes next =
    ap (cbc_from key (word_bytes chain)) (ap (blocks_left text) ei ∙ blocks_left_end text n e) ∙ ap (λ b. b ++ []) step ∙ append-nil (word_bytes next) in
    eo ∙ ap (λ r. out ++ r) (sym rest) ∙ done.joined
