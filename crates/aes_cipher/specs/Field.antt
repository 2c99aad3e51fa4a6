-- Bytes as polynomials over GF(2) modulo x^8 + x^4 + x^3 + x + 1, and the substitution of a byte (FIPS 197, 4, 5.1.1).
use Rattle.std.specs.Prelude.{ℕ, zero, suc, ◌+◌, ◌*◌, ◌/◌, ◌%◌, ◌^◌, ◌==◌, bit_xor, sum_by, find, unwrap_or}
use Rattle.std.specs.List.{range_with_len}

-- a byte times x, or 02: shifted left by one bit, and reduced by the polynomial, whose bits are 11b (4.2.1)
unfoldable pub doubled : ℕ → ℕ
doubled a = bit_xor (a * 2) (a / 128 * 0x11b)

-- a times the polynomial of the lowest n bits of b: the lowest bit adds a, each next one twice the one before
unfoldable pub product_of_bits : ℕ → ℕ → ℕ → ℕ
product_of_bits zero a b = 0
product_of_bits (suc n) a b = bit_xor (b % 2 * a) (product_of_bits n (doubled a) (b / 2))

-- the product of two bytes (4.2)
unfoldable pub product : ℕ → ℕ → ℕ
product a b = product_of_bits 8 a b

-- the byte whose product with this one is 1, and 0 for 0 (4.2)
unfoldable pub inverse : ℕ → ℕ
inverse a = unwrap_or (find (λ b. product a b == 1) (range_with_len 0 256)) 0

-- bit i of a byte, the numbers modulo 8 and bit 0 the lowest
unfoldable pub bit_of : ℕ → ℕ → ℕ
bit_of b i = b / 2 ^ (i % 8) % 2

-- bit i of the affine map: bits i, i + 4, i + 5, i + 6 and i + 7 of the byte and bit i of 63, xored (5.1.1)
unfoldable pub affine_bit : ℕ → ℕ → ℕ
affine_bit b i =
    (bit_of b i + bit_of b (i + 4) + bit_of b (i + 5) + bit_of b (i + 6) + bit_of b (i + 7) + bit_of 0x63 i) % 2

-- SubBytes of one byte: the affine map of its inverse (5.1.1)
unfoldable pub substituted : ℕ → ℕ
substituted a = let b = inverse a in sum_by (λ i. affine_bit b i * 2 ^ i) (range_with_len 0 8)
