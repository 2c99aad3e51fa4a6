-- A number is permuted by IP, deciphered and permuted back.
use Rattle.std.proofs.Common.{ap, ◌∙◌}
use Rattle.des_block.specs.Cipher.{word_bytes, des_encipher, des_decipher}
use Rattle.des_block.proofs.Laws.{length-word_bytes, word_bytes_small, des_encipher-des_decipher}
use Rattle.des_block.proofs.Des.decipher_word.Goals as goal

pub returns-clause-deciphered : goal.returns-clause-deciphered
returns-clause-deciphered c = λ key held.
    ap word_bytes c.word.ensures ∙ c.decipher_permuted.ensures key held ∙ ap (λ block. des_decipher key (word_bytes block)) c.new.ensures

pub returns-clause-undone : goal.returns-clause-undone
returns-clause-undone c = λ key held.
    ap (des_encipher key) (returns-clause-deciphered c key held)
    ∙ des_encipher-des_decipher key (word_bytes c.args.block) (length-word_bytes c.args.block) (word_bytes_small c.args.block)
