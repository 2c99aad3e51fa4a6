-- A round with the next key is one more round, and IP before them and its inverse after them are the cipher.
use Rattle.std.proofs.Common.{refl, arith}
use Rattle.des_block.specs.Tables.{initial_permutation, inverse_permutation}
use Rattle.des_plain.proofs.PlainSteps.{Ciphers_more, Ciphers_all}
use Rattle.des_plain.proofs.ciphered.Goals as goal

pub loop-key-preserved : goal.loop-key-preserved
loop-key-preserved c =
    Ciphers_more c.args.keys.now _ _ c.loop-key.key-index c.loop-key.left c.loop-key.right c.cipher_function.result _ c.loop-key.invariant
    (omega arith) refl c.cipher_function.ensures

pub returns : goal.returns
unfolding initial_permutation inverse_permutation
returns c =
    Ciphers_all c.args.keys.now c.args.block c.picked-mixed.result c.loop-key.left c.loop-key.right c.picked.result c.loop-key.key-index
    (omega arith) (omega arith) c.picked-mixed.ensures c.loop-key.invariant c.picked.ensures
