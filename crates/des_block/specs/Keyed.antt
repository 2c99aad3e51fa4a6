-- What it means that a cipher has a key, and how its words represent bits.
use Rattle.std.specs.Prelude.{◌≡◌, ℕ, Bool, List, [], ◌∷◌, ◌++◌, map, take, drop}
use Rattle.des_block.specs.Bits.{bits, picked}
use Rattle.des_block.specs.Cipher.{Halves, turned, round_keys, block_bits}
use Rattle.des_block.specs.declared.schedule.RoundKey.{RoundKey}
use Rattle.des_block.specs.declared.Des.{Des}
use Rattle.des_block.specs.declared.Tdes.{Tdes}

-- the positions of the six bits for S1 to S8 in the two words of a round key, one after the other
unfoldable pub box_places : List ℕ
box_places =
    3 ∷ 4 ∷ 5 ∷ 6 ∷ 7 ∷ 8 ∷ 35 ∷ 36 ∷ 37 ∷ 38 ∷ 39 ∷ 40 ∷
    11 ∷ 12 ∷ 13 ∷ 14 ∷ 15 ∷ 16 ∷ 43 ∷ 44 ∷ 45 ∷ 46 ∷ 47 ∷ 48 ∷
    19 ∷ 20 ∷ 21 ∷ 22 ∷ 23 ∷ 24 ∷ 51 ∷ 52 ∷ 53 ∷ 54 ∷ 55 ∷ 56 ∷
    27 ∷ 28 ∷ 29 ∷ 30 ∷ 31 ∷ 32 ∷ 59 ∷ 60 ∷ 61 ∷ 62 ∷ 63 ∷ 64 ∷ []

-- the 48 bits of a round key in its words
unfoldable pub key_bits : RoundKey → List Bool
key_bits key = picked box_places (bits 32 key.odd ++ bits 32 key.even)

-- the halves in two words, which hold each rotated left by one bit
unfoldable pub turned_halves : ℕ → ℕ → Halves
turned_halves left right = record { left = turned 31 (bits 32 left); right = turned 31 (bits 32 right) }

-- the cipher holds the round keys of this key of eight bytes
unfoldable pub HasKey : Des → List ℕ → Type 0
HasKey des key = map key_bits des.keys ≡ round_keys (block_bits key)

-- the triple cipher holds the round keys of the halves of this key of sixteen bytes
pub record HasKeyPair (tdes : Tdes) (key : List ℕ) : Type 0 where
  pub left : HasKey tdes.left (take 8 key)
  pub right : HasKey tdes.right (drop 8 key)
