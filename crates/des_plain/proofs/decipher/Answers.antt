-- The bytes are those of the word that is ciphered with the round keys in reverse order.
use Rattle.std.proofs.Common.{ap, ap₂, ◌∙◌, map, reverse, w64}
use Rattle.std.specs.Int.{to_be_bytes}
use Rattle.des_block.specs.Bits.{bits, number}
use Rattle.des_block.specs.Cipher.{ciphered, round_keys, word_bytes, block_bits, block_bytes, des_decipher}
use Rattle.des_block.proofs.Laws.{map-reverse}
use Rattle.des_plain.proofs.decipher.Goals as goal

pub returns : goal.returns
unfolding des_decipher word_bytes block_bits block_bytes
returns c =
    c.to_be_bytes.ensures ∙ ap (to_be_bytes w64) (c.ciphered.ensures
    ∙ ap₂ (λ ks n. number (ciphered ks (bits 64 n)))
    (ap (map (bits 48)) c.reverse.ensures.after ∙ map-reverse (bits 48) c.round_keys-keys.result
    ∙ ap reverse (c.round_keys-keys.ensures ∙ ap (λ n. round_keys (bits 64 n)) c.from_be_bytes.ensures))
    c.from_be_bytes-2.ensures)
