-- The shift of the block as a number.
use Rattle.std.proofs.Common.{ap, ◌∙◌, ◌*◌, ◌/◌, ◌%◌, ◌^◌, bit_xor, ℕ}
use Rattle.std.specs.Int.{w128, to_be_bytes}
use Rattle.aes_cipher.specs.Mac.{twice}
use Rattle.aes_cipher.proofs.mac.twice.Goals as goal

pub returns : goal.returns
unfolding twice
returns c =
    c.to_be_bytes.ensures
    ∙ ap (λ (n : ℕ). to_be_bytes w128 (bit_xor (n * 2 % 2 ^ 128) (n / 2 ^ 127 * 0x87))) c.from_be_bytes-number.ensures
