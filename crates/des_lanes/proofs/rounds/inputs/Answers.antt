-- Six bits of E in a row, each xored with the key's.
use Rattle.std.proofs.Common.{arith}
use Rattle.des_lanes.proofs.RoundSteps.{inputs_are}
use Rattle.des_lanes.proofs.rounds.inputs.Goals as goal

pub returns : goal.returns
returns c = λ lane.
    inputs_are c.args.right.now c.args.keys.now c.args.places.now lane c.args.i c.keyed.result c.keyed-2.result c.keyed-3.result c.keyed-4.result
    c.keyed-5.result c.keyed-6.result (omega arith) c.requires.within
    (c.keyed.ensures lane) (c.keyed-2.ensures lane) (c.keyed-3.ensures lane) (c.keyed-4.ensures lane) (c.keyed-5.ensures lane) (c.keyed-6.ensures lane)
