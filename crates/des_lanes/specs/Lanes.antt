-- 128 lanes of bits in pairs of words: lane 0 is the highest bit of the first word, lane 64 that of the second.
use Rattle.std.specs.Prelude.{ℕ, ◌+◌, ◌*◌, ◌-◌, ◌/◌, ◌%◌, ◌^◌, ◌==◌, Bool, false, List, [], ◌++◌, map, slice_index, slice_index_or, bit_and, if◌then◌else◌}
use lib.Lanes.{zip2}
use Rattle.des_block.specs.Bits.{number}
use Rattle.des_block.specs.Tables.{box_permutation}
use Rattle.des_block.specs.Cipher.{word_bytes}
use Rattle.des_block.specs.declared.Key16.{Key16}
use Rattle.des_lanes.specs.declared.blocks.LaneBlocks.{LaneBlocks}
use Rattle.des_lanes.specs.declared.keys.LaneKeys.{LaneKeys}
use mathlib.Core.Bool.{xor}

-- the bit of a lane in a pair of words
unfoldable pub lane_bit : ℕ → List ℕ → Bool
lane_bit lane pair = slice_index pair (lane / 64 % 2) / 2 ^ (63 - lane % 64) % 2 == 1

-- the bits of a lane in pairs of words, one after another
unfoldable pub lane_bits : ℕ → List (List ℕ) → List Bool
lane_bits lane pairs = map (lane_bit lane) pairs

-- the word of a lane in 64 pairs
unfoldable pub lane_word : ℕ → List (List ℕ) → ℕ
lane_word lane pairs = number (lane_bits lane pairs)

-- the bits at these places, numbered from 0 and modulo 64
unfoldable pub bits_at : List ℕ → List Bool → List Bool
bits_at places bs = map (λ place. slice_index_or bs (bit_and place 63) false) places

-- a bit of a half, xored with the output of box i that this entry of P selects, if it selects one of that box; entries
-- number the outputs of all boxes from 1
unfoldable pub with_output : ℕ → List Bool → ℕ → Bool → Bool
with_output i outputs entry bit =
    if (entry - 1) / 4 == i then xor bit (slice_index_or outputs ((entry - 1) % 4) false) else bit

-- a half, xored with the outputs of box i where P puts them
unfoldable pub with_outputs : ℕ → List Bool → List Bool → List Bool
with_outputs i outputs half = zip2 (with_output i outputs) box_permutation half

-- digit k of a number, the lowest at 0
unfoldable pub digit : ℕ → ℕ → ℕ
digit k n = n / 2 ^ k % 2

-- the number with another digit there
unfoldable pub with_digit : ℕ → ℕ → ℕ → ℕ
with_digit k n d = n - digit k n * 2 ^ k + d * 2 ^ k

-- the bytes of a lane's key
unfoldable pub key_at : List Key16 → ℕ → List ℕ
key_at keys lane = (slice_index_or keys lane (record { 0 = [] })).0

-- the block of a lane
unfoldable pub block_in : ℕ → LaneBlocks → List ℕ
block_in lane blocks = word_bytes (lane_word lane blocks.pairs.0)

-- the key of a lane: its two halves
unfoldable pub key_in : ℕ → LaneKeys → List ℕ
key_in lane keys = block_in lane keys.left ++ block_in lane keys.right
