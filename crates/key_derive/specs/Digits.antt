-- Decimal digits as bytes: what the card's master keys are derived from, EMV 4.3 Book 2 Annex A1.4.
use Rattle.std.specs.Prelude.{ℕ, ◌+◌, ◌-◌, ◌*◌, ◌%◌, Bool, not, nat_le, List, [], ◌∷◌, ◌++◌, length, take, drop, replicate, filter, map}
use Rattle.std.specs.List.{flat_map}
use Rattle.issuer_base.specs.ChipData.{digits_of}

-- the digits packed two in a byte, the first in the high nibble
unfoldable pub packed : List ℕ → List ℕ
packed [] = []
packed (digit ∷ []) = []
packed (high ∷ low ∷ digits) = (16 * high + low) ∷ packed digits

-- the digits of the account number and of the sequence number
abbrev pub card_digits : List ℕ → ℕ → List ℕ
card_digits pan psn = pan ++ digits_of psn

-- the last sixteen of some digits, with zeros on the left if there are fewer
unfoldable pub rightmost16 : List ℕ → List ℕ
rightmost16 digits = replicate (16 - length digits) 0 ++ drop (length digits - 16) digits

-- the digits, padded with one zero on the left if their number is odd
unfoldable pub evened : List ℕ → List ℕ
evened digits = replicate (length digits % 2) 0 ++ digits

-- the nibble is a decimal digit
abbrev pub is_digit : ℕ → Bool
is_digit nibble = nat_le nibble 9

-- the nibbles A to F as the digits 0 to 5
abbrev pub letters : List ℕ → List ℕ
letters nibbles = map (λ letter. letter - 10) (filter (λ nibble. not (is_digit nibble)) nibbles)

-- the first sixteen decimal nibbles of a digest; if there are fewer, its nibbles A to F follow, as 0 to 5: Annex A1.4.2
unfoldable pub decimal16 : List ℕ → List ℕ
decimal16 digest =
    let nibbles = flat_map digits_of digest in
    packed (take 16 (filter is_digit nibbles ++ letters nibbles))
