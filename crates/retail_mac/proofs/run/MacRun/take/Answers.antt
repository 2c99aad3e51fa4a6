-- A run that starts over.
use Rattle.std.proofs.Common.{ap, ◌∙◌}
use Rattle.des_block.specs.Cipher.{word_bytes}
use Rattle.retail_mac.specs.Mac.{blocks}
use Rattle.retail_mac.proofs.Blocks.{zero_word}
use Rattle.retail_mac.proofs.Pieces.{retail_mac-end}
use Rattle.retail_mac.proofs.run.MacRun.take.Goals as goal

pub returns-clause-mac : goal.returns-clause-mac
returns-clause-mac c = λ key text is. c.ended-mac.ensures key is.keyed ∙ retail_mac-end key text _ _ is.chain (c.as_slice.ensures.value ∙ is.part)

pub returns-clause-again : goal.returns-clause-again
unfolding blocks
returns-clause-again c = λ key text is. record { keyed = is.keyed; chain = ap word_bytes c.new-self.ensures ∙ zero_word; part = c.clear.ensures }
