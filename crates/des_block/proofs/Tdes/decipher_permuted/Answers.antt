-- Three ciphers one after another are the inverse of triple DES.
use Rattle.std.proofs.Common.{take, drop, ap, ◌∙◌}
use Rattle.des_block.specs.Cipher.{des_encipher, des_decipher, tdes_decipher}
use Rattle.des_block.proofs.Tdes.decipher_permuted.Goals as goal

pub returns : goal.returns
unfolding tdes_decipher
returns c = λ key held.
    c.decipher_permuted.ensures (take 8 key) held.left
    ∙ ap (des_decipher (take 8 key)) (c.encipher_permuted-second.ensures (drop 8 key) held.right
    ∙ ap (des_encipher (drop 8 key)) (c.decipher_permuted-first.ensures (take 8 key) held.left))
