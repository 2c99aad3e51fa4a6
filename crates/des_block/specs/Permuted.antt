-- The block whose halves after IP are in two words.
use Rattle.std.specs.Prelude.{ℕ, ◌++◌}
use Rattle.des_block.specs.Bits.{number, picked}
use Rattle.des_block.specs.Tables.{inverse_permutation}
use Rattle.des_block.specs.Keyed.{turned_halves}

-- the number of the block whose halves after IP are in these words: by the inverse of IP
unfoldable pub permuted_word : ℕ → ℕ → ℕ
permuted_word left right =
    let h = turned_halves left right in
    number (picked inverse_permutation (h.left ++ h.right))
