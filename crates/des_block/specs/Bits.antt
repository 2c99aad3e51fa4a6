-- Numbers as binary digits, and tables that select digits by their positions.
use Rattle.std.specs.Prelude.{ℕ, zero, suc, ◌+◌, ◌-◌, ◌*◌, ◌/◌, ◌%◌, ◌^◌, ◌==◌, Bool, true, false, List, [], ◌∷◌, length, map, slice_index_or}
use mathlib.Core.Bool.{xor}

-- the n lowest binary digits of a number, the highest first
unfoldable pub bits : ℕ → ℕ → List Bool
bits zero x = []
bits (suc n) x = (x / 2 ^ n % 2 == 1) ∷ bits n x

-- a binary digit as a number
abbrev pub digit : Bool → ℕ
digit true = 1
digit false = 0

-- the value of binary digits, the highest first
unfoldable pub number : List Bool → ℕ
number [] = 0
number (b ∷ bs) = digit b * 2 ^ length bs + number bs

-- bit i of the result is the bit that entry i of the table names; bits are numbered from 1
unfoldable pub picked : List ℕ → List Bool → List Bool
picked table bs = map (λ entry. slice_index_or bs (entry - 1) false) table

-- the xor of two lists of bits, bit by bit
unfoldable pub xor_bits : List Bool → List Bool → List Bool
xor_bits [] ys = []
xor_bits (x ∷ xs) [] = []
xor_bits (x ∷ xs) (y ∷ ys) = xor x y ∷ xor_bits xs ys
