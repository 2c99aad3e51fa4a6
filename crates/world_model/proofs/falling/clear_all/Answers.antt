-- One more row is cleared.
use Rattle.std.proofs.Common.{◌<◌, length, get_or, arith}
use Rattle.std.proofs.lemmas.List.{get_or_default}
use Rattle.world_model.proofs.FallenRows.{cleared-more, cleared-end}
use Rattle.world_model.proofs.falling.clear_all.Goals as goal

pub loop-number-preserved : goal.loop-number-preserved
loop-number-preserved c =
    let rows = c.loop-number.rows in
    let number = c.loop-number.number in
    let size = c.loop-number.invariant.size in
    let test = c.loop-number-test.true in
    let within : number < length rows = omega (arith, size, test) in
    let row = get_or rows number c.index-rows-number.result in
    cleared-more c.args.rows.now rows number row c.clear.new.self within
    (get_or_default rows number c.index-rows-number.result row within) c.clear.ensures c.loop-number.invariant

pub returns : goal.returns
returns c =
    let size = c.loop-number.invariant.size in
    cleared-end c.args.rows.now c.loop-number.rows c.loop-number.number (omega (arith, size)) c.loop-number.invariant
