-- A MAC over a text, computed incrementally.
use Rattle.std.specs.Prelude.{◌≡◌, ℕ, ◌*◌, ◌/◌, List, length, take, drop, fold}
use Rattle.des_block.specs.Cipher.{word_bytes}
use Rattle.des_block.specs.Keyed.{HasKeyPair}
use Rattle.retail_mac.specs.Mac.{blocks, zero_block, chained}
use Rattle.retail_mac.specs.declared.run.MacRun.{MacRun}

-- the run has this key and this text so far: its chain is over the whole blocks, and it buffers the bytes after them
pub record IsRun (run : MacRun) (key text : List ℕ) : Type 0 where
  pub keyed : HasKeyPair run.cipher key
  pub chain : word_bytes run.chain ≡ fold (chained (take 8 key)) zero_block (blocks (length text / 8) text)
  pub part : run.part.items ≡ drop (8 * (length text / 8)) text
