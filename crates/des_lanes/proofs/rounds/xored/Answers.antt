-- The xor of words is the xor of their bits.
use Rattle.des_lanes.proofs.Gates.{lane-xor, IsPair-from}
use Rattle.des_lanes.proofs.rounds.xored.Goals as goal

pub returns : goal.returns
returns c = λ lane. lane-xor lane c.args.a c.args.b (IsPair-from c.args.a c.fits-a) (IsPair-from c.args.b c.fits-b)
