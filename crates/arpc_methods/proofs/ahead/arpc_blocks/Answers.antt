-- Each lane has the key and the last block of its answer.
use Rattle.std.proofs.Common.{◌∙◌, List, ℕ}
use Rattle.std.proofs.lemmas.Simd.{zip2_of_maps}
use Rattle.des_block.specs.declared.Key16.{Key16}
use Rattle.des_block.specs.Cipher.{tdes_encipher}
use Rattle.arpc_methods.specs.declared.ahead.AnswerParts.{AnswerParts}
use Rattle.arpc_methods.specs.Ahead.{last_block, arpc_block}
use Rattle.arpc_methods.proofs.ahead.arpc_blocks.Goals as goal

pub returns : goal.returns
unfolding arpc_block
returns c =
    let key : AnswerParts → Key16 = λ parts. parts.key in
    c.tdes_encipher.ensures
    ∙ zip2_of_maps (λ (key : Key16) (block : List ℕ). tdes_encipher key.0 block) key last_block c.args.answers.now c.keys_of.ensures
    (c.as_slice-2.ensures.value ∙ c.last_blocks-blocks.ensures)
