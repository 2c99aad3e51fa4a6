-- A CMAC over a text, computed incrementally.
use Rattle.std.specs.Prelude.{◌≡◌, ℕ, ◌*◌, List, drop, fold}
use Rattle.aes_cipher.specs.Columns.{state_bytes}
use Rattle.aes_cipher.specs.Mac.{zero_block, blocks, blocks_before_last, chained, HasCmacKey}
use Rattle.aes_cipher.specs.declared.run.CmacRun.{CmacRun}

-- the run has this key and this text so far: its chain is over the blocks before the last, and it buffers the last
pub record IsRun (run : CmacRun) (key text : List ℕ) : Type 0 where
  pub keyed : HasCmacKey run.key key
  pub chain : state_bytes run.chain ≡ fold (chained key) zero_block (blocks (blocks_before_last text) text)
  pub last : run.last.items ≡ drop (16 * blocks_before_last text) text
