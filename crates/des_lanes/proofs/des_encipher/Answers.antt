-- Each lane's block is enciphered under the lane's key.
use Rattle.std.proofs.Common.{◌∙◌, [], ap₂, arith}
use Rattle.des_block.specs.Cipher.{des_encipher}
use Rattle.des_lanes.specs.Lanes.{block_in}
use Rattle.des_lanes.proofs.LaneWords.{paired}
use Rattle.des_lanes.proofs.des_encipher.Goals as goal

pub returns : goal.returns
returns c =
    c.first.ensures
    ∙ paired des_encipher c.args.keys.now c.args.blocks.now (λ lane. block_in lane c.encipher.new.self) [] c.requires.paired
    (λ lane h. c.encipher.ensures lane ∙ ap₂ des_encipher (c.new.ensures lane h) (c.new-lanes.ensures lane (omega arith)))
