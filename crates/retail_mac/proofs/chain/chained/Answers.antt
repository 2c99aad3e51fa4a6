-- One block more, and the chain is still that of the blocks so far.
use Rattle.std.proofs.Common.{bit_xor, refl, ap, ◌∙◌}
use Rattle.des_block.specs.Cipher.{word_bytes, des_encipher}
use Rattle.retail_mac.specs.Mac.{blocks}
use Rattle.retail_mac.proofs.Pieces.{chained-more}
use Rattle.retail_mac.proofs.chain.chained.Goals as goal

pub loop-i-init : goal.loop-i-init
unfolding blocks
loop-i-init c = λ key keyed. refl

pub loop-i-preserved : goal.loop-i-preserved
loop-i-preserved c = λ key keyed.
    chained-more key _ _ _ _ _ _ (c.loop-i.invariant key keyed) c.word_at.ensures
    (c.encipher_permuted.ensures key keyed
    ∙ ap (λ block. des_encipher key (word_bytes block)) (c.xor.ensures ∙ ap (bit_xor c.loop-i.chain) c.new-block.ensures))
