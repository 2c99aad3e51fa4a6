-- Eight table lookups are the cipher function.
use Rattle.std.proofs.Common.{ℕ, ◌/◌, ◌^◌, bit_xor, ◌<◌, ap₂, ◌∙◌, arith}
use Rattle.std.proofs.lemmas.Nat.{xor_of_32}
use Rattle.des_block.specs.Tables.{s1, s2, s3, s4, s5, s6, s7, s8}
use Rattle.des_block.specs.Keyed.{key_bits}
use Rattle.des_block.proofs.MixedSteps.{box_at, box_top, mixed_word, mixed_is}
use Rattle.des_block.proofs.MergedTables.{boxes_1, boxes_2, boxes_3, boxes_4, boxes_5, boxes_6, boxes_7, boxes_8}
use Rattle.des_block.proofs.rounds.mixed.Goals as goal

pub returns : goal.returns
unfolding key_bits mixed_word
returns c =
    let o : ℕ = bit_xor c.rotate_right.result c.args.key.now.odd in
    let e : ℕ = bit_xor c.args.half c.args.key.now.even in
    let o_fits : o / 2 ^ 24 < 256 = omega (arith, xor_of_32 c.rotate_right.result c.args.key.now.odd (omega arith) (omega arith)) in
    let e_fits : e / 2 ^ 24 < 256 = omega (arith, xor_of_32 c.args.half c.args.key.now.even (omega arith) (omega arith)) in
    ap₂ bit_xor (ap₂ bit_xor (ap₂ bit_xor (ap₂ bit_xor (ap₂ bit_xor (ap₂ bit_xor (ap₂ bit_xor
    (box_top _ s1 28 (o / 2 ^ 24) boxes_1 o_fits) (box_top _ s2 24 (e / 2 ^ 24) boxes_2 e_fits)) (box_at _ s3 20 (o / 2 ^ 16) boxes_3))
    (box_at _ s4 16 (e / 2 ^ 16) boxes_4))
    (box_at _ s5 12 (o / 2 ^ 8) boxes_5)) (box_at _ s6 8 (e / 2 ^ 8) boxes_6)) (box_at _ s7 4 o boxes_7)) (box_at _ s8 0 e boxes_8)
    ∙ mixed_is c.args.half c.rotate_right.result c.args.key.now.odd c.args.key.now.even (omega arith) c.rotate_right.ensures
