-- A run over no bytes yet.
use Rattle.aes_cipher.specs.Mac.{zero_block, blocks, blocks_before_last}
use Rattle.aes_cipher.proofs.run.CmacRun.new.Goals as goal

pub returns : goal.returns
unfolding zero_block blocks blocks_before_last
returns c = λ key keyed. record { keyed = keyed; chain = c.new.ensures; last = c.new-2.ensures }
