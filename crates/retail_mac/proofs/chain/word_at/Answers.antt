-- Eight bytes from an offset, big-endian, are the block there.
use Rattle.std.proofs.Common.{arith}
use Rattle.retail_mac.proofs.Blocks.{word_at_is}
use Rattle.retail_mac.proofs.chain.word_at.Goals as goal

pub returns : goal.returns
returns c =
    word_at_is c.args.text.now c.args.at c.from_be_bytes.result (omega arith) (λ i. omega (arith, c.type_inv.text i)) c.from_be_bytes.ensures
