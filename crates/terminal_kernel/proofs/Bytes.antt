-- Lists of bytes.
use Rattle.std.proofs.Common.{ℕ, zero, suc, ◌<◌, [], ◌∷◌, lit<}
use Rattle.hex.specs.Hex.{IsBytes}

pub IsBytes-one : (byte : ℕ) → byte < 256 → IsBytes (byte ∷ [])
IsBytes-one byte below zero = below
IsBytes-one byte below (suc i) = lit< tt

pub IsBytes-two : (high low : ℕ) → high < 256 → low < 256 → IsBytes (high ∷ low ∷ [])
IsBytes-two high low first second zero = first
IsBytes-two high low first second (suc zero) = second
IsBytes-two high low first second (suc (suc i)) = lit< tt
