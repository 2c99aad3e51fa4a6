-- The pair of the key is the one at the place.
use Rattle.std.proofs.Common.{◌∙◌, [], ap, get_or}
use Rattle.des_lanes.specs.Lanes.{lane_bit}
use Rattle.des_lanes.proofs.SmallPlaces.{and_place}
use mathlib.Core.Bool.{xor}
use Rattle.des_lanes.proofs.rounds.keyed.Goals as goal

pub returns : goal.returns
returns c = λ lane.
    c.xored.ensures lane
    ∙ ap (λ place. xor (lane_bit lane c.args.pair) (lane_bit lane (get_or c.args.keys.now place []))) (and_place c.args.place c.requires)
