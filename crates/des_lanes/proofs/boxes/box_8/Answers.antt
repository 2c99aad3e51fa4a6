-- The circuit's output in each lane is the box's, since it is so for every six bits.
use Rattle.des_block.specs.Tables.{s8}
use Rattle.des_lanes.proofs.Gates.{box_is, on_pairs}
use Rattle.des_lanes.proofs.Circuits.{circuit_8, circuit_8-is}
use Rattle.des_lanes.proofs.boxes.box_8.Goals as goal

pub returns : goal.returns
unfolding on_pairs circuit_8
returns c = λ lane.
    box_is circuit_8 s8 circuit_8-is c.args.a c.args.b c.args.c c.args.d c.args.e c.args.f
    c.fits-a c.fits-b c.fits-c c.fits-d c.fits-e c.fits-f lane
