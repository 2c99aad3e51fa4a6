-- Five exchanges of bits are the inverse of IP.
use Rattle.std.proofs.Common.{◌<◌, ◌^◌, arith, refl, rules}
use Rattle.des_block.specs.Keyed.{turned_halves}
use Rattle.des_block.specs.Permuted.{permuted_word}
use Rattle.des_block.proofs.WordSteps.{joined_is}
use Rattle.des_block.proofs.rounds.joined.Goals as goal

pub returns : goal.returns
unfolding permuted_word turned_halves
returns c =
    let a_fits : c.exchange-a5.result.0 < 2 ^ 32 = search rules in
    let b_fits : c.exchange-a5.result.1 < 2 ^ 32 = search rules in
    joined_is c.args.right c.args.left c.rotate_right.result c.rotate_right-2.result
    c.exchange-a1.result.0 c.exchange-a1.result.1 c.exchange-b2.result.0 c.exchange-b2.result.1
    c.exchange-b3.result.0 c.exchange-b3.result.1 c.exchange-a4.result.0 c.exchange-a4.result.1 c.exchange-a5.result.0 c.exchange-a5.result.1
    _ (omega arith) (omega arith) (omega arith) (omega arith) a_fits b_fits c.rotate_right.ensures c.rotate_right-2.ensures
    c.exchange-a1.ensures.high c.exchange-a1.ensures.low c.exchange-b2.ensures.high c.exchange-b2.ensures.low
    c.exchange-b3.ensures.high c.exchange-b3.ensures.low c.exchange-a4.ensures.high c.exchange-a4.ensures.low
    c.exchange-a5.ensures.high c.exchange-a5.ensures.low refl
