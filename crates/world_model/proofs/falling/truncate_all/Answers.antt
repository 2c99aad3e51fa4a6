-- At last each shard is truncated.
use Rattle.std.proofs.Common.{arith}
use Rattle.world_model.proofs.Truncated.{truncated-end}
use Rattle.world_model.proofs.falling.truncate_all.Goals as goal

pub returns : goal.returns
returns c =
    let long = c.requires in
    let past = c.loop-number-test.false in
    truncated-end c.args.keep.now c.args.shards.now c.loop-number.shards c.loop-number.number c.requires (omega (arith, long, past))
    c.loop-number.invariant
