-- The last block ends with the padding, and those before it are the text's.
use Rattle.std.proofs.Common.{arith}
use Rattle.des_lanes.proofs.MacSteps.{last_is, inner_is}
use Rattle.des_lanes.proofs.words.padded_word.Goals as goal

pub returns-then-rest-lt8 : goal.returns-then-rest-lt8
returns-then-rest-lt8 c =
    last_is c.args.text.now c.copy_from_slice.new.self c.args.i c.from_be_bytes.result (omega arith) (λ k. omega (arith, c.type_inv.text k))
    c.if-rest-lt8.true c.copy_from_slice.ensures.after c.from_be_bytes.ensures

pub returns : goal.returns
returns c =
    inner_is c.args.text.now c.copy_from_slice-2.new.self c.args.i c.from_be_bytes-2.result (omega arith) (λ k. omega (arith, c.type_inv.text k))
    c.if-rest-lt8.false c.copy_from_slice-2.ensures.after c.from_be_bytes-2.ensures
