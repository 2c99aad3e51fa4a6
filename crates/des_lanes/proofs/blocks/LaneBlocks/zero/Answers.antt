-- The bit of each lane in a pair of zeros is 0.
use Rattle.std.proofs.Common.{Bool, ap, ◌∙◌, replicate}
use Rattle.des_block.specs.Bits.{number}
use Rattle.des_lanes.specs.Lanes.{lane_word, lane_bits}
use Rattle.des_lanes.proofs.Gates.{lane_bit-zero}
use Rattle.des_lanes.proofs.blocks.LaneBlocks.zero.Goals as goal

pub returns : goal.returns
unfolding lane_word lane_bits number
returns c = λ lane. ap (lane_word lane) c.of.ensures ∙ ap (λ (b : Bool). number (replicate 64 b)) (lane_bit-zero lane)
