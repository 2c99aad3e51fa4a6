-- A shift to the right moves each column.
use Rattle.des_lanes.proofs.Gates.{IsPair-from}
use Rattle.des_lanes.proofs.Turns.{moved_right_is}
use Rattle.des_lanes.proofs.turning.moved_right.Goals as goal

pub returns : goal.returns
returns c = λ lane room. moved_right_is c.args.a c.args.n lane (IsPair-from c.args.a c.fits-a) room
