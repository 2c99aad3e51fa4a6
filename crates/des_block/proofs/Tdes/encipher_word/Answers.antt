-- A number is permuted by IP, enciphered and permuted back.
use Rattle.std.proofs.Common.{ap, ◌∙◌}
use Rattle.des_block.specs.Cipher.{word_bytes, tdes_encipher, tdes_decipher}
use Rattle.des_block.proofs.Laws.{length-word_bytes, word_bytes_small, tdes_decipher-tdes_encipher}
use Rattle.des_block.proofs.Tdes.encipher_word.Goals as goal

pub returns-clause-enciphered : goal.returns-clause-enciphered
returns-clause-enciphered c = λ key held.
    ap word_bytes c.word.ensures ∙ c.encipher_permuted.ensures key held ∙ ap (λ block. tdes_encipher key (word_bytes block)) c.new.ensures

pub returns-clause-undone : goal.returns-clause-undone
returns-clause-undone c = λ key held.
    ap (tdes_decipher key) (returns-clause-enciphered c key held)
    ∙ tdes_decipher-tdes_encipher key (word_bytes c.args.block) (length-word_bytes c.args.block) (word_bytes_small c.args.block)
