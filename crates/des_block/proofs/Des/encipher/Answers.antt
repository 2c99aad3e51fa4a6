-- Eight bytes are enciphered as their word, and deciphering returns them.
use Rattle.std.proofs.Common.{rules, ap, ◌∙◌}
use Rattle.des_block.specs.Cipher.{des_encipher, des_decipher}
use Rattle.des_block.proofs.Laws.{on_bytes, des_decipher-des_encipher}
use Rattle.des_block.proofs.Des.encipher.Goals as goal

pub returns-clause-enciphered : goal.returns-clause-enciphered
returns-clause-enciphered c = λ key held.
    on_bytes (des_encipher key) c.args.block c.from_be_bytes.result c.encipher_word.result c.to_be_bytes.result (search rules) (search rules)
    c.from_be_bytes.ensures (c.encipher_word.ensures.enciphered key held) c.to_be_bytes.ensures

pub returns-clause-undone : goal.returns-clause-undone
returns-clause-undone c = λ key held.
    ap (des_decipher key)
    (on_bytes (des_encipher key) c.args.block c.from_be_bytes.result c.encipher_word.result c.to_be_bytes.result (search rules) (search rules)
    c.from_be_bytes.ensures (c.encipher_word.ensures.enciphered key held) c.to_be_bytes.ensures)
    ∙ des_decipher-des_encipher key c.args.block (search rules) (search rules)
