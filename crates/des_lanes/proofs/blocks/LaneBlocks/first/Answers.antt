-- The words of the first lanes.
use Rattle.std.proofs.Common.{ap, ◌∙◌, arith}
use Rattle.des_block.specs.Cipher.{word_bytes}
use Rattle.des_lanes.specs.Lanes.{block_in}
use Rattle.des_lanes.proofs.LaneWords.{first_is}
use Rattle.des_lanes.proofs.blocks.LaneBlocks.first.Goals as goal

pub returns : goal.returns
unfolding block_in
returns c =
    c.bytes_of.ensures
    ∙ first_is (λ lane. block_in lane c.args.self.now) c.from_lanes.result c.args.count (omega arith)
    (λ lane h. ap word_bytes (c.from_lanes.ensures lane (omega arith)))
