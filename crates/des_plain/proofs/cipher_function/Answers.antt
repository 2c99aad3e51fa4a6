-- Expansion, xor with the key, substitution and permutation are the standard's cipher function.
use Rattle.des_block.specs.Tables.{box_permutation, expansion}
use Rattle.des_plain.proofs.PlainSteps.{cipher_function_is}
use Rattle.des_plain.proofs.cipher_function.Goals as goal

pub returns : goal.returns
unfolding expansion box_permutation
returns c = cipher_function_is c.args.right c.args.key c.picked-expanded.result c.substituted.result c.picked.result
    c.picked-expanded.ensures c.substituted.ensures c.picked.ensures
