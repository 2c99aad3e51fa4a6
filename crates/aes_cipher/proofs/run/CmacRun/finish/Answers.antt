-- The chain over the blocks before the last, ended with the last one, is the CMAC of the whole text.
use Rattle.std.proofs.Common.{refl, ◌∙◌}
use Rattle.aes_cipher.specs.Mac.{blocks_before_last}
use Rattle.aes_cipher.proofs.Blocks.{cmac_end}
use Rattle.aes_cipher.proofs.run.CmacRun.finish.Goals as goal

pub returns : goal.returns
returns c = λ key text is.
    c.ended.ensures key is.keyed ∙ cmac_end key text _ _ (blocks_before_last text) refl is.chain
    (c.as_slice.ensures.value ∙ is.last)
