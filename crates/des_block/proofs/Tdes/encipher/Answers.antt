-- Eight bytes are enciphered as their word, and deciphering returns them.
use Rattle.std.proofs.Common.{rules, ap, ◌∙◌}
use Rattle.des_block.specs.Cipher.{tdes_encipher, tdes_decipher}
use Rattle.des_block.proofs.Laws.{on_bytes, tdes_decipher-tdes_encipher}
use Rattle.des_block.proofs.Tdes.encipher.Goals as goal

pub returns-clause-enciphered : goal.returns-clause-enciphered
returns-clause-enciphered c = λ key held.
    on_bytes (tdes_encipher key) c.args.block c.from_be_bytes.result c.encipher_word.result c.to_be_bytes.result (search rules) (search rules)
    c.from_be_bytes.ensures (c.encipher_word.ensures.enciphered key held) c.to_be_bytes.ensures

pub returns-clause-undone : goal.returns-clause-undone
returns-clause-undone c = λ key held.
    ap (tdes_decipher key)
    (on_bytes (tdes_encipher key) c.args.block c.from_be_bytes.result c.encipher_word.result c.to_be_bytes.result (search rules) (search rules)
    c.from_be_bytes.ensures (c.encipher_word.ensures.enciphered key held) c.to_be_bytes.ensures)
    ∙ tdes_decipher-tdes_encipher key c.args.block (search rules) (search rules)
