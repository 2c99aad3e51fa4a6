-- Eight bytes are deciphered as their word, and enciphering returns them.
use Rattle.std.proofs.Common.{rules, ap, ◌∙◌}
use Rattle.des_block.specs.Cipher.{des_encipher, des_decipher}
use Rattle.des_block.proofs.Laws.{on_bytes, des_encipher-des_decipher}
use Rattle.des_block.proofs.Des.decipher.Goals as goal

pub returns-clause-deciphered : goal.returns-clause-deciphered
returns-clause-deciphered c = λ key held.
    on_bytes (des_decipher key) c.args.block c.from_be_bytes.result c.decipher_word.result c.to_be_bytes.result (search rules) (search rules)
    c.from_be_bytes.ensures (c.decipher_word.ensures.deciphered key held) c.to_be_bytes.ensures

pub returns-clause-undone : goal.returns-clause-undone
returns-clause-undone c = λ key held.
    ap (des_encipher key)
    (on_bytes (des_decipher key) c.args.block c.from_be_bytes.result c.decipher_word.result c.to_be_bytes.result (search rules) (search rules)
    c.from_be_bytes.ensures (c.decipher_word.ensures.deciphered key held) c.to_be_bytes.ensures)
    ∙ des_encipher-des_decipher key c.args.block (search rules) (search rules)
