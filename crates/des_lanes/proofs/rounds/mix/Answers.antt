-- Each box's outputs are xored into the half, and together they are the cipher function.
use Rattle.std.proofs.Common.{Bool, List, ap, ◌∙◌, arith}
use Rattle.std.proofs.lemmas.List.{length-map}
use Rattle.des_block.specs.Bits.{picked, xor_bits}
use Rattle.des_block.specs.Tables.{expansion, box_permutation, s1, s2, s3, s4, s5, s6, s7, s8}
use Rattle.des_block.specs.Cipher.{box_output, cipher_function}
use Rattle.des_lanes.specs.Lanes.{lane_bit, lane_bits, bits_at, with_outputs}
use Rattle.des_lanes.proofs.RoundSteps.{boxes_are, mixes}
use Rattle.des_lanes.proofs.rounds.mix.Goals as goal

pub returns : goal.returns
unfolding lane_bits cipher_function
returns c = λ lane.
    let left : List Bool = lane_bits lane c.args.left.now in
    let mixed : List Bool = xor_bits (picked expansion (lane_bits lane c.args.right.now)) (bits_at c.args.places.now (lane_bits lane c.args.keys.now)) in
    (c.add-8.ensures lane ∙ ap (with_outputs 7 _)
    (c.add-7.ensures lane ∙ ap (with_outputs 6 _)
    (c.add-6.ensures lane ∙ ap (with_outputs 5 _)
    (c.add-5.ensures lane ∙ ap (with_outputs 4 _)
    (c.add-4.ensures lane ∙ ap (with_outputs 3 _)
    (c.add-3.ensures lane ∙ ap (with_outputs 2 _)
    (c.add-2.ensures lane ∙ ap (with_outputs 1 _)
    (c.add.ensures lane))))))))
    ∙ mixes left (length-map c.args.left.now (lane_bit lane) ∙ omega arith) _ _ _ _ _ _ _ _ _ _ _ _ _ _ _ _ _ _ _ _ _ _ _ _ _ _ _ _ _ _ _ _
    ∙ ap (λ outputs. xor_bits left (picked box_permutation outputs)) (boxes_are mixed _ _ _ _ _ _ _ _
    (c.box_1.ensures lane ∙ ap (box_output s1) (c.inputs-six.ensures lane))
    (c.box_2.ensures lane ∙ ap (box_output s2) (c.inputs-six-2.ensures lane))
    (c.box_3.ensures lane ∙ ap (box_output s3) (c.inputs-six-3.ensures lane))
    (c.box_4.ensures lane ∙ ap (box_output s4) (c.inputs-six-4.ensures lane))
    (c.box_5.ensures lane ∙ ap (box_output s5) (c.inputs-six-5.ensures lane))
    (c.box_6.ensures lane ∙ ap (box_output s6) (c.inputs-six-6.ensures lane))
    (c.box_7.ensures lane ∙ ap (box_output s7) (c.inputs-six-7.ensures lane))
    (c.box_8.ensures lane ∙ ap (box_output s8) (c.inputs-six-8.ensures lane)))
