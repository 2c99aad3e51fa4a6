-- A run over no bytes yet.
use Rattle.std.proofs.Common.{ap, ◌∙◌}
use Rattle.des_block.specs.Cipher.{word_bytes}
use Rattle.retail_mac.specs.Mac.{blocks}
use Rattle.retail_mac.proofs.Blocks.{zero_word}
use Rattle.retail_mac.proofs.run.MacRun.new.Goals as goal

pub returns : goal.returns
unfolding blocks
returns c = record { keyed = c.new.ensures; chain = ap word_bytes c.new-2.ensures ∙ zero_word; part = c.new-3.ensures }
