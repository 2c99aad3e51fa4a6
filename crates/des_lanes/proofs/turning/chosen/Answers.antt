-- A bit is that of `a` where the mask's is 1.
use Rattle.des_lanes.proofs.Gates.{IsPair-from}
use Rattle.des_lanes.proofs.Turns.{chosen_is}
use Rattle.des_lanes.proofs.turning.chosen.Goals as goal

pub returns : goal.returns
returns c = λ lane.
    chosen_is lane c.args.mask c.args.a c.args.b (IsPair-from c.args.mask c.fits-mask) (IsPair-from c.args.a c.fits-a) (IsPair-from c.args.b c.fits-b)
