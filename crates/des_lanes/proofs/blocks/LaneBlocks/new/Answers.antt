-- Each block is the word of its lane.
use Rattle.std.proofs.Common.{ap, ◌∙◌, arith}
use Rattle.des_block.specs.Cipher.{word_bytes}
use Rattle.des_lanes.specs.Lanes.{block_in, lane_word}
use Rattle.des_lanes.proofs.blocks.LaneBlocks.new.Goals as goal

pub returns : goal.returns
unfolding block_in
returns c = λ lane h.
    ap word_bytes (ap (lane_word lane) c.of.ensures ∙ c.into_lanes.ensures lane (omega arith)) ∙ c.words_of.ensures lane h
