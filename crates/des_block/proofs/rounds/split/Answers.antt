-- Five exchanges of bits are IP.
use Rattle.std.proofs.Common.{◌<◌, ◌^◌, arith, rules}
use Rattle.des_block.proofs.WordSteps.{split_is}
use Rattle.des_block.proofs.PermutedSteps.{permuted_word-split}
use Rattle.des_block.proofs.rounds.split.Goals as goal

pub returns : goal.returns
returns c =
    let a_fits : c.exchange-a5.result.0 < 2 ^ 32 = search rules in
    let b_fits : c.exchange-a5.result.1 < 2 ^ 32 = search rules in
    permuted_word-split c.args.block c.rotate_left.result c.rotate_left-2.result (omega arith)
    (split_is c.args.block c.exchange-a1.result.0 c.exchange-a1.result.1 c.exchange-a2.result.0 c.exchange-a2.result.1
    c.exchange-b3.result.0 c.exchange-b3.result.1 c.exchange-b4.result.0 c.exchange-b4.result.1 c.exchange-a5.result.0 c.exchange-a5.result.1
    c.rotate_left.result c.rotate_left-2.result (omega arith) a_fits b_fits
    c.exchange-a1.ensures.high c.exchange-a1.ensures.low c.exchange-a2.ensures.high c.exchange-a2.ensures.low
    c.exchange-b3.ensures.high c.exchange-b3.ensures.low c.exchange-b4.ensures.high c.exchange-b4.ensures.low
    c.exchange-a5.ensures.high c.exchange-a5.ensures.low c.rotate_left.ensures c.rotate_left-2.ensures)
