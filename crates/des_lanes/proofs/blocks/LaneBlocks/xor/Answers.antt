-- The words are those of the lanes.
use Rattle.std.proofs.Common.{ap, ◌∙◌, bit_xor}
use Rattle.des_lanes.specs.Lanes.{lane_word}
use Rattle.des_lanes.proofs.blocks.LaneBlocks.xor.Goals as goal

pub returns : goal.returns
returns c = λ lane h. c.xor_into.ensures lane ∙ ap (bit_xor (lane_word lane c.args.self.now.pairs.0)) (c.into_lanes.ensures lane h)
