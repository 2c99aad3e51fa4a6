-- The rounds, and the exchange that follows them, are DES.
use Rattle.std.proofs.Common.{map, ap, ◌∙◌}
use Rattle.des_block.specs.Cipher.{word_bytes, des_encipher}
use Rattle.des_block.specs.Keyed.{key_bits, HasKey}
use Rattle.des_block.proofs.PermutedSteps.{permuted_enciphered}
use Rattle.des_block.proofs.Des.encipher_permuted.Goals as goal

pub returns : goal.returns
unfolding HasKey
returns c = λ key held.
    ap word_bytes c.after_rounds.ensures
    ∙ permuted_enciphered key (map key_bits c.args.self.now.keys) c.block.inside.left c.block.inside.right c.rounds-left.result.0 c.rounds-left.result.1
    held c.rounds-left.ensures
    ∙ ap (λ block. des_encipher key (word_bytes block)) c.block.view_is
