-- The stored round keys are those of the key's bits.
use Rattle.std.proofs.Common.{ap, ◌∙◌}
use Rattle.des_block.specs.Bits.{bits}
use Rattle.des_block.specs.Cipher.{round_keys, block_bits}
use Rattle.des_block.specs.Keyed.{HasKey}
use Rattle.des_block.proofs.Des.new.Goals as goal

pub returns : goal.returns
unfolding HasKey block_bits
returns c = c.round_keys.ensures ∙ ap (λ n. round_keys (bits 64 n)) c.from_be_bytes.ensures
