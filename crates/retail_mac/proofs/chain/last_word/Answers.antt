-- The remaining bytes, a byte 80 and zeros are the last block.
use Rattle.std.proofs.Common.{arith}
use Rattle.retail_mac.proofs.Blocks.{last_word_is}
use Rattle.retail_mac.proofs.chain.last_word.Goals as goal

pub returns : goal.returns
returns c =
    last_word_is c.args.rest.now c.copy_from_slice.new.self _ c.from_be_bytes.result c.requires (λ i. omega (arith, c.type_inv.rest i))
    (omega arith) c.copy_from_slice.ensures.after
    c.from_be_bytes.ensures
