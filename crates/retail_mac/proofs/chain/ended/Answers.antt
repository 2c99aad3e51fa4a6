-- The last block ends the chain by triple DES.
use Rattle.std.proofs.Common.{◌≡◌, ℕ, bit_xor, ◌∙◌, ap}
use Rattle.des_block.specs.Cipher.{word_bytes, tdes_encipher}
use Rattle.retail_mac.specs.Mac.{xor_bytes}
use Rattle.retail_mac.proofs.Blocks.{xor-word_bytes}
use Rattle.retail_mac.proofs.chain.ended.Goals as goal

pub returns : goal.returns
unfolding word_bytes
returns c = λ key keyed.
    let chain : ℕ = c.args.chain.now in
    let mixed : c.xor.result ≡ bit_xor chain c.last_word.result = c.xor.ensures ∙ ap (bit_xor chain) c.new-last.ensures in
    c.to_be_bytes.ensures ∙ ap word_bytes c.word.ensures ∙ c.encipher_permuted-mac.ensures key keyed
    ∙ ap (tdes_encipher key)
    (ap word_bytes mixed ∙ xor-word_bytes chain c.last_word.result ∙ ap (xor_bytes (word_bytes chain)) c.last_word.ensures)
