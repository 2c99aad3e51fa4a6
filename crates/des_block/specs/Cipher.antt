-- DES and two-key triple DES (FIPS 46-3), on bits by the standard's tables and on bytes.
use Rattle.std.specs.Prelude.{ℕ, ◌+◌, ◌*◌, Bool, List, [], ◌∷◌, ◌++◌, take, drop, reverse, fold, slice_index}
use Rattle.std.specs.Int.{w64, from_be_bytes, to_be_bytes}
use Rattle.des_block.specs.Bits.{bits, number, picked, xor_bits}
use Rattle.des_block.specs.Tables.{initial_permutation, inverse_permutation, expansion, box_permutation, key_choice_left, key_choice_right, round_key_choice}
use Rattle.des_block.specs.Tables.{rotations, s_boxes}

-- the output of an S box for six bits: the first and the last are its row, the inner four its column
unfoldable pub box_output : List ℕ → List Bool → List Bool
box_output box six =
    bits 4 (slice_index box (16 * number (picked (1 ∷ 6 ∷ []) six) + number (picked (2 ∷ 3 ∷ 4 ∷ 5 ∷ []) six)))

-- each S box in turn over the next six bits
unfoldable pub substituted : List (List ℕ) → List Bool → List Bool
substituted [] bs = []
substituted (box ∷ boxes) bs = box_output box (take 6 bs) ++ substituted boxes (drop 6 bs)

-- the cipher function f(R, K): P(S(E(R) xor K))
unfoldable pub cipher_function : List Bool → List Bool → List Bool
cipher_function right key =
    picked box_permutation (substituted s_boxes (xor_bits (picked expansion right) key))

-- the two halves of a block, 32 bits each
pub record Halves : Type 0 where
  pub left : List Bool
  pub right : List Bool

-- the halves of 64 bits
unfoldable pub halves : List Bool → Halves
halves bs = record { left = take 32 bs; right = drop 32 bs }

-- a round maps (L, R) to (R, L xor f(R, K))
unfoldable pub round : Halves → List Bool → Halves
round h key = record { left = h.right; right = xor_bits h.left (cipher_function h.right key) }

-- IP, a round with each key in turn, an exchange of the halves, and the inverse of IP
unfoldable pub ciphered : List (List Bool) → List Bool → List Bool
ciphered keys block =
    let end = fold round (halves (picked initial_permutation block)) keys in
    picked inverse_permutation (end.right ++ end.left)

-- bits rotated left by n
unfoldable pub turned : ℕ → List Bool → List Bool
turned n bs = drop n bs ++ take n bs

-- for each rotation a round key: C and D are rotated left, and PC-2 selects 48 of their bits
unfoldable pub keys_from : List Bool → List Bool → List ℕ → List (List Bool)
keys_from c d [] = []
keys_from c d (n ∷ ns) =
    picked round_key_choice (turned n c ++ turned n d) ∷ keys_from (turned n c) (turned n d) ns

-- the sixteen round keys of a key of 64 bits
unfoldable pub round_keys : List Bool → List (List Bool)
round_keys key = keys_from (picked key_choice_left key) (picked key_choice_right key) rotations

-- the eight bytes of a number, big-endian
unfoldable pub word_bytes : ℕ → List ℕ
word_bytes n = to_be_bytes w64 n

-- the 64 bits of eight bytes, from the left
unfoldable pub block_bits : List ℕ → List Bool
block_bits bytes = bits 64 (from_be_bytes w64 bytes)

-- the eight bytes of 64 bits
unfoldable pub block_bytes : List Bool → List ℕ
block_bytes bs = word_bytes (number bs)

-- DES: a block of eight bytes under a key of eight bytes
unfoldable pub des_encipher : List ℕ → List ℕ → List ℕ
des_encipher key block = block_bytes (ciphered (round_keys (block_bits key)) (block_bits block))

-- its inverse: the round keys in reverse order
unfoldable pub des_decipher : List ℕ → List ℕ → List ℕ
des_decipher key block = block_bytes (ciphered (reverse (round_keys (block_bits key))) (block_bits block))

-- triple DES under the halves of a key of sixteen bytes: encipher with the left, decipher with the
-- right, encipher with the left
unfoldable pub tdes_encipher : List ℕ → List ℕ → List ℕ
tdes_encipher key block =
    des_encipher (take 8 key) (des_decipher (drop 8 key) (des_encipher (take 8 key) block))

-- the inverse of triple DES
unfoldable pub tdes_decipher : List ℕ → List ℕ → List ℕ
tdes_decipher key block =
    des_decipher (take 8 key) (des_encipher (drop 8 key) (des_decipher (take 8 key) block))
