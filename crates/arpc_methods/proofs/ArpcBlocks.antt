-- Issuer authentication data under triple DES: by both methods they end with one block enciphered by triple DES.
use Rattle.std.proofs.Common.{◌≡◌, ℕ, zero, suc, ◌+◌, ◌/◌, ◌%◌, ◌-◌, List, [], ◌∷◌, ◌++◌, length, get_or, set, take, drop, replicate, fold, bit_xor}
use Rattle.std.proofs.Common.{refl, sym, ap, ap₂, ◌∙◌, arith, append_assoc}
use Rattle.std.proofs.lemmas.List.{take_at, drop_at, take_all, length-append}
use Rattle.issuer_base.specs.declared.answer.Method.TheVariants.{One, Two}
use Rattle.issuer_base.specs.declared.request.Suite.TheVariants.{TripleDes}
use Rattle.des_block.specs.Cipher.{des_encipher, des_decipher, tdes_encipher}
use Rattle.retail_mac.specs.Mac.{padded, blocks, padded_blocks, xor_bytes, zero_block, chained, retail_mac}
use Rattle.key_derive.specs.SuiteMac.{mac_of}
use Rattle.arpc_methods.specs.declared.ahead.AnswerParts.{AnswerParts}
use Rattle.arpc_methods.specs.Arpc.{method1, method2, value91}
use Rattle.arpc_methods.specs.Ahead.{first_block, block_by, last_block, arpc_block}
use Rattle.arpc_methods.proofs.Blocks.{xor_bytes-zeros}

-- a byte that is changed in place
abbrev pub xored_at : List ℕ → ℕ → ℕ → List ℕ
xored_at bytes i byte = set bytes i (bit_xor (get_or bytes i 0) byte)

-- the card status update, padded, xored in byte by byte
pub update-xored : (block csu : List ℕ) → length block ≡ 8 → length csu ≡ 4
    → xored_at (xored_at (xored_at (xored_at (xored_at block 0 (get_or csu 0 0)) 1 (get_or csu 1 0)) 2 (get_or csu 2 0)) 3 (get_or csu 3 0)) 4 128
    ≡ xor_bytes block (csu ++ 0x80 ∷ replicate 3 0)
unfolding xor_bytes
update-xored [] csu long four = absurd (omega arith)
update-xored (a ∷ []) csu long four = absurd (omega arith)
update-xored (a ∷ b ∷ []) csu long four = absurd (omega arith)
update-xored (a ∷ b ∷ c ∷ []) csu long four = absurd (omega arith)
update-xored (a ∷ b ∷ c ∷ d ∷ []) csu long four = absurd (omega arith)
update-xored (a ∷ b ∷ c ∷ d ∷ e ∷ block) [] long four = absurd (omega arith)
update-xored (a ∷ b ∷ c ∷ d ∷ e ∷ block) (p ∷ []) long four = absurd (omega arith)
update-xored (a ∷ b ∷ c ∷ d ∷ e ∷ block) (p ∷ q ∷ []) long four = absurd (omega arith)
update-xored (a ∷ b ∷ c ∷ d ∷ e ∷ block) (p ∷ q ∷ r ∷ []) long four = absurd (omega arith)
update-xored (a ∷ b ∷ c ∷ d ∷ e ∷ block) (p ∷ q ∷ r ∷ s ∷ []) long four =
    ap (λ rest. bit_xor a p ∷ bit_xor b q ∷ bit_xor c r ∷ bit_xor d s ∷ bit_xor e 128 ∷ rest) (sym (xor_bytes-zeros block 3 (omega arith)))
update-xored (a ∷ b ∷ c ∷ d ∷ e ∷ block) (p ∷ q ∷ r ∷ s ∷ t ∷ csu) long four = absurd (omega arith)

-- a block that is xored into zeros
zeros-xored : (ys : List ℕ) (n : ℕ) → length ys ≡ n → xor_bytes (replicate n 0) ys ≡ ys
unfolding xor_bytes
zeros-xored [] zero long = refl
zeros-xored [] (suc n) long = absurd (omega arith)
zeros-xored (y ∷ ys) zero long = absurd (omega arith)
zeros-xored (y ∷ ys) (suc n) long = ap (λ xs. y ∷ xs) (zeros-xored ys n (omega arith))

-- the two blocks of the text under the MAC
two-blocks : (ac csu : List ℕ) → length ac ≡ 8 → length csu ≡ 4 → padded_blocks (ac ++ csu) ≡ ac ∷ (csu ++ 0x80 ∷ replicate 3 0) ∷ []
unfolding padded padded_blocks blocks
two-blocks ac csu eight four =
    let text : List ℕ = ac ++ csu in
    let last : List ℕ = csu ++ 0x80 ∷ replicate 3 0 in
    let twelve : length text ≡ 12 = omega (arith, length-append ac csu) in
    let whole : text ++ 0x80 ∷ replicate (7 - length text % 8) 0 ≡ ac ++ last =
    ap (λ n. text ++ 0x80 ∷ replicate (7 - n % 8) 0) twelve ∙ append_assoc ac csu (0x80 ∷ replicate 3 0) in
    let long : length last ≡ 8 = omega (arith, length-append csu (0x80 ∷ replicate 3 0)) in
    let second : take 8 (drop 8 (ac ++ last)) ≡ last = ap (take 8) (drop_at ac last 8 eight) ∙ take_all 8 last (omega arith) in
    ap₂ blocks (ap (λ n. n / 8 + 1) twelve) whole
    ∙ ap₂ (λ first second. first ∷ second ∷ []) (take_at ac last 8 eight) second

-- the MAC of the two blocks ends with triple DES
pub mac-of-two-blocks : (key ac csu : List ℕ) → length ac ≡ 8 → length csu ≡ 4
    → retail_mac key (ac ++ csu) ≡ tdes_encipher key (xor_bytes (des_encipher (take 8 key) ac) (csu ++ 0x80 ∷ replicate 3 0))
unfolding retail_mac chained zero_block tdes_encipher
mac-of-two-blocks key ac csu eight four =
    let left : List ℕ = take 8 key in
    let last : List ℕ = csu ++ 0x80 ∷ replicate 3 0 in
    let chain : fold (chained left) zero_block (padded_blocks (ac ++ csu)) ≡ des_encipher left (xor_bytes (des_encipher left ac) last) =
    ap (fold (chained left) zero_block) (two-blocks ac csu eight four)
    ∙ ap (λ block. des_encipher left (xor_bytes (des_encipher left block) last)) (zeros-xored ac 8 eight) in
    ap (λ block. des_encipher left (des_decipher (drop 8 key) block)) chain

-- by method 1 tag 91 has the block and the response code
pub value91-One : (parts : AnswerParts) → parts.method ≡ One
    → value91 TripleDes parts.method parts.key.0 parts.ac parts.arc parts.csu ≡ arpc_block parts ++ parts.arc
unfolding value91 method1 arpc_block last_block block_by
value91-One parts one =
    ap (λ method. value91 TripleDes method parts.key.0 parts.ac parts.arc parts.csu) one
    ∙ sym (ap (λ method. tdes_encipher parts.key.0 (block_by method parts) ++ parts.arc) one)

-- by method 2 it has the first four bytes of the block and the card status update
pub value91-Two : (parts : AnswerParts) → parts.method ≡ Two → length parts.ac ≡ 8 → length parts.csu ≡ 4
    → value91 TripleDes parts.method parts.key.0 parts.ac parts.arc parts.csu ≡ take 4 (arpc_block parts) ++ parts.csu
unfolding value91 method2 mac_of arpc_block last_block block_by first_block
value91-Two parts two eight four =
    ap (λ method. value91 TripleDes method parts.key.0 parts.ac parts.arc parts.csu) two
    ∙ ap (λ block. take 4 block ++ parts.csu) (mac-of-two-blocks parts.key.0 parts.ac parts.csu eight four)
    ∙ sym (ap (λ method. take 4 (tdes_encipher parts.key.0 (block_by method parts)) ++ parts.csu) two)
