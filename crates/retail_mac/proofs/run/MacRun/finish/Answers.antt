-- The chain over the whole blocks, ended with the buffered bytes, is the MAC of the whole text.
use Rattle.std.proofs.Common.{◌∙◌}
use Rattle.retail_mac.proofs.Pieces.{retail_mac-end}
use Rattle.retail_mac.proofs.run.MacRun.finish.Goals as goal

pub returns : goal.returns
returns c = λ key text is. c.ended.ensures key is.keyed ∙ retail_mac-end key text _ _ is.chain (c.as_slice.ensures.value ∙ is.part)
