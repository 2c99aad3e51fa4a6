-- Three ciphers one after another are triple DES.
use Rattle.std.proofs.Common.{take, drop, ap, ◌∙◌}
use Rattle.des_block.specs.Cipher.{des_encipher, des_decipher, tdes_encipher}
use Rattle.des_block.proofs.Tdes.encipher_permuted.Goals as goal

pub returns : goal.returns
unfolding tdes_encipher
returns c = λ key held.
    c.encipher_permuted.ensures (take 8 key) held.left
    ∙ ap (des_encipher (take 8 key)) (c.decipher_permuted-second.ensures (drop 8 key) held.right
    ∙ ap (des_decipher (drop 8 key)) (c.encipher_permuted-first.ensures (take 8 key) held.left))
