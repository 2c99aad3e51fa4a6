-- The chain is ended, and the run starts over.
use Rattle.std.proofs.Common.{refl, ◌∙◌}
use Rattle.aes_cipher.specs.Mac.{zero_block, blocks, blocks_before_last}
use Rattle.aes_cipher.proofs.Blocks.{cmac_end}
use Rattle.aes_cipher.proofs.run.CmacRun.take.Goals as goal

pub returns-clause-mac : goal.returns-clause-mac
returns-clause-mac c = λ key text is.
    c.ended-mac.ensures key is.keyed
    ∙ cmac_end key text _ _ (blocks_before_last text) refl is.chain (c.as_slice.ensures.value ∙ is.last)

pub returns-clause-again : goal.returns-clause-again
unfolding zero_block blocks blocks_before_last
returns-clause-again c = λ key text is. record { keyed = is.keyed; chain = c.new-self.ensures; last = c.clear.ensures }
