-- Under the left half, back under the right half, and under the left half.
use Rattle.std.proofs.Common.{ap, refl, ◌∙◌}
use Rattle.des_block.specs.Cipher.{des_encipher, des_decipher}
use Rattle.des_lanes.specs.Lanes.{block_in, key_in}
use Rattle.des_lanes.proofs.LaneWords.{tripled_is, left_of, right_of}
use Rattle.des_lanes.proofs.keys.LaneKeys.encipher.Goals as goal

pub returns : goal.returns
returns c = λ lane.
    let left = block_in lane c.args.self.now.left in
    let right = block_in lane c.args.self.now.right in
    c.encipher-2.ensures lane ∙ ap (des_encipher left) (c.decipher.ensures lane ∙ ap (des_decipher right) (c.encipher.ensures lane))
    ∙ tripled_is (key_in lane c.args.self.now) left right _ _ (left_of lane c.args.self.now) (right_of lane c.args.self.now) refl
