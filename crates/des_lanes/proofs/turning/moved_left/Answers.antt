-- A shift to the left moves each column.
use Rattle.des_lanes.proofs.Gates.{IsPair-from}
use Rattle.des_lanes.proofs.Turns.{moved_left_is}
use Rattle.des_lanes.proofs.turning.moved_left.Goals as goal

pub returns : goal.returns
returns c = λ lane room. moved_left_is c.args.a c.args.n lane (IsPair-from c.args.a c.fits-a) room
