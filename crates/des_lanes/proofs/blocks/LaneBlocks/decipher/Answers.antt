-- A block is its lane's word.
use Rattle.des_lanes.specs.Lanes.{block_in}
use Rattle.des_lanes.proofs.blocks.LaneBlocks.decipher.Goals as goal

pub returns : goal.returns
unfolding block_in
returns c = c.decipher.ensures
