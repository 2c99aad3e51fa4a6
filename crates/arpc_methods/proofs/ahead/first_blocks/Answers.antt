-- Each lane has the left half and the cryptogram of its answer.
use Rattle.std.proofs.Common.{◌∙◌, List, ℕ, take}
use Rattle.std.proofs.lemmas.Simd.{zip2_of_maps}
use Rattle.des_block.specs.Cipher.{des_encipher}
use Rattle.arpc_methods.specs.declared.ahead.AnswerParts.{AnswerParts}
use Rattle.arpc_methods.specs.Ahead.{first_block}
use Rattle.arpc_methods.proofs.ahead.first_blocks.Goals as goal

pub returns : goal.returns
unfolding first_block
returns c =
    let half : AnswerParts → List ℕ = λ parts. take 8 parts.key.0 in
    let cryptogram : AnswerParts → List ℕ = λ parts. parts.ac in
    c.des_encipher.ensures
    ∙ zip2_of_maps des_encipher half cryptogram c.args.answers.now (c.as_slice.ensures.value ∙ c.left_halves.ensures)
    (c.as_slice-2.ensures.value ∙ c.cryptograms.ensures)
