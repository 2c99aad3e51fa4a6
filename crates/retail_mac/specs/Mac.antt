-- The retail MAC (ISO/IEC 9797-1, algorithm 3 with padding method 2) and CBC, over the blocks of a padded text.
use Rattle.std.specs.Prelude.{ℕ, zero, suc, ◌+◌, ◌-◌, ◌/◌, ◌%◌, List, [], ◌∷◌, ◌++◌, length, take, drop, replicate, fold, bit_xor}
use Rattle.des_block.specs.Cipher.{des_encipher, des_decipher, tdes_encipher}

-- the text, a byte 80, and the fewest bytes 00 that make its length a multiple of eight
unfoldable pub padded : List ℕ → List ℕ
padded text = text ++ 0x80 ∷ replicate (7 - length text % 8) 0

-- the first n blocks of eight bytes
unfoldable pub blocks : ℕ → List ℕ → List (List ℕ)
blocks zero bytes = []
blocks (suc n) bytes = take 8 bytes ∷ blocks n (drop 8 bytes)

-- the blocks of the padded text
unfoldable pub padded_blocks : List ℕ → List (List ℕ)
padded_blocks text = blocks (length text / 8 + 1) (padded text)

-- the xor of two blocks, byte by byte
unfoldable pub xor_bytes : List ℕ → List ℕ → List ℕ
xor_bytes [] ys = []
xor_bytes (x ∷ xs) [] = []
xor_bytes (x ∷ xs) (y ∷ ys) = bit_xor x y ∷ xor_bytes xs ys

-- the IV of both chains
unfoldable pub zero_block : List ℕ
zero_block = replicate 8 0

-- a step of the MAC's chain: the block xor the previous result, enciphered by DES
unfoldable pub chained : List ℕ → List ℕ → List ℕ → List ℕ
chained key before block = des_encipher key (xor_bytes before block)

-- the MAC: the chain under the left half of the key, then the inverse under the right half, then the left half again
unfoldable pub retail_mac : List ℕ → List ℕ → List ℕ
retail_mac key text =
    let last = fold (chained (take 8 key)) zero_block (padded_blocks text) in
    des_encipher (take 8 key) (des_decipher (drop 8 key) last)

-- CBC from a block: each block xor the previous one of the result, enciphered by triple DES
unfoldable pub cbc_from : List ℕ → List ℕ → List (List ℕ) → List ℕ
cbc_from key before [] = []
cbc_from key before (block ∷ rest) =
    let next = tdes_encipher key (xor_bytes before block) in
    next ++ cbc_from key next rest

-- triple DES in CBC over the padded text, with a zero IV
unfoldable pub cbc : List ℕ → List ℕ → List ℕ
cbc key text = cbc_from key zero_block (padded_blocks text)
