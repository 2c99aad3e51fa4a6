-- Each of the two blocks goes through the rounds of DES.
use Rattle.std.proofs.Common.{map, ap, ◌∙◌}
use Rattle.des_block.specs.Cipher.{word_bytes, des_encipher}
use Rattle.des_block.specs.Keyed.{key_bits, HasKey}
use Rattle.des_block.proofs.PermutedSteps.{permuted_enciphered}
use Rattle.des_block.proofs.Des.encipher_both.Goals as goal

pub returns-clause-first : goal.returns-clause-first
unfolding HasKey
returns-clause-first c = λ key held.
    ap word_bytes c.after_rounds.ensures
    ∙ permuted_enciphered key (map key_bits c.args.self.now.keys) c.first.inside.left c.first.inside.right c.rounds_of_both.result.0.0
    c.rounds_of_both.result.0.1
    held c.rounds_of_both.ensures.first
    ∙ ap (λ block. des_encipher key (word_bytes block)) c.first.view_is

pub returns-clause-second : goal.returns-clause-second
unfolding HasKey
returns-clause-second c = λ key held.
    ap word_bytes c.after_rounds-2.ensures
    ∙ permuted_enciphered key (map key_bits c.args.self.now.keys) c.second.inside.left c.second.inside.right c.rounds_of_both.result.1.0
    c.rounds_of_both.result.1.1
    held c.rounds_of_both.ensures.second
    ∙ ap (λ block. des_encipher key (word_bytes block)) c.second.view_is
