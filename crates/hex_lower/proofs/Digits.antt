-- Both digits of a byte by one sum.
use Rattle.std.proofs.Common.{◌≡◌, ℕ, ◌+◌, ◌*◌, ◌/◌, ◌%◌, ◌<◌, get_or, map, refl, ap, sym, ◌∙◌, arith, slice_index, bit_and}
use Rattle.std.proofs.lemmas.List.FromFn.{get_or-map-range_with_len}
use Rattle.std.specs.List.{range_with_len}
use Rattle.hex.specs.Hex.{lower_digits}

-- the values of both halves, the high one first
abbrev pub values : ℕ → ℕ
values byte = byte / 16 + 256 * (byte % 16)

-- the digits of both halves, the high one first
abbrev pub pair_of : ℕ → ℕ
pair_of byte = values byte + 0x3030 + 39 * bit_and ((values byte + 0x0606) / 16) 0x0101

-- functions with the same table have the same value at a byte
same_at : (f g : ℕ → ℕ) (byte : ℕ) → map f (range_with_len 0 256) ≡ map g (range_with_len 0 256) → byte < 256 → f byte ≡ g byte
same_at f g byte same below =
    sym (get_or-map-range_with_len f 0 256 byte byte 0 (omega arith) (omega arith))
    ∙ ap (λ table. get_or table byte 0) same
    ∙ get_or-map-range_with_len g 0 256 byte byte 0 (omega arith) (omega arith)

-- the first is the digit of the high half
pub pair_of-high : (byte : ℕ) → byte < 256 → pair_of byte % 256 ≡ slice_index lower_digits (byte / 16)
pair_of-high byte below = same_at (λ b. pair_of b % 256) (λ b. slice_index lower_digits (b / 16)) byte refl below

-- the second is the digit of the low half
pub pair_of-low : (byte : ℕ) → byte < 256 → pair_of byte / 256 % 256 ≡ slice_index lower_digits (byte % 16)
pair_of-low byte below = same_at (λ b. pair_of b / 256 % 256) (λ b. slice_index lower_digits (b % 16)) byte refl below
