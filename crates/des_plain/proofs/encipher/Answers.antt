-- The bytes are those of the word that is ciphered with the round keys in order.
use Rattle.std.proofs.Common.{ap, ap₂, ◌∙◌, w64}
use Rattle.std.specs.Int.{to_be_bytes}
use Rattle.des_block.specs.Bits.{bits, number}
use Rattle.des_block.specs.Cipher.{ciphered, round_keys, word_bytes, block_bits, block_bytes, des_encipher}
use Rattle.des_plain.proofs.encipher.Goals as goal

pub returns : goal.returns
unfolding des_encipher word_bytes block_bits block_bytes
returns c =
    c.to_be_bytes.ensures ∙ ap (to_be_bytes w64) (c.ciphered.ensures
    ∙ ap₂ (λ ks n. number (ciphered ks (bits 64 n))) (c.round_keys-keys.ensures
    ∙ ap (λ n. round_keys (bits 64 n)) c.from_be_bytes.ensures) c.from_be_bytes-2.ensures)
