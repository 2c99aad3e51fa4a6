-- The rounds with the keys in reverse order are the inverse of DES.
use Rattle.std.proofs.Common.{map, ap, ◌∙◌}
use Rattle.des_block.specs.Cipher.{word_bytes, des_decipher}
use Rattle.des_block.specs.Keyed.{key_bits, HasKey}
use Rattle.des_block.proofs.PermutedSteps.{permuted_deciphered}
use Rattle.des_block.proofs.Des.decipher_permuted.Goals as goal

pub returns : goal.returns
unfolding HasKey
returns c = λ key held.
    ap word_bytes c.after_rounds.ensures
    ∙ permuted_deciphered key (map key_bits c.args.self.now.keys) c.block.inside.left c.block.inside.right c.rounds_back-left.result.0
    c.rounds_back-left.result.1
    held c.rounds_back-left.ensures
    ∙ ap (λ block. des_decipher key (word_bytes block)) c.block.view_is
