-- Four pairs are xored, each at its place of P.
use Rattle.std.proofs.Common.{arith}
use Rattle.des_lanes.proofs.RoundSteps.{place, added_is}
use Rattle.des_lanes.proofs.rounds.add.Goals as goal

pub returns : goal.returns
unfolding place
returns c = λ lane.
    added_is c.args.half.now lane c.args.i c.xored-a.result c.xored-b.result c.xored-c.result c.xored-d.result
    c.args.outputs.0 c.args.outputs.1 c.args.outputs.2 c.args.outputs.3 (omega arith) c.requires
    (c.xored-a.ensures lane) (c.xored-b.ensures lane) (c.xored-c.ensures lane) (c.xored-d.ensures lane)
