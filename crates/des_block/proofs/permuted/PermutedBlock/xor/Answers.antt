-- Xor commutes with IP.
use Rattle.std.proofs.Common.{bit_xor, ap₂, ◌∙◌}
use Rattle.des_block.proofs.PermutedSteps.{permuted_word-xor}
use Rattle.des_block.proofs.permuted.PermutedBlock.xor.Goals as goal

pub returns : goal.returns
returns c =
    permuted_word-xor c.self.inside.left c.self.inside.right c.other.inside.left c.other.inside.right ∙ ap₂ bit_xor c.self.view_is c.other.view_is
