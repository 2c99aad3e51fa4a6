-- A half of 28 bits, shifted left with the lost bits appended, is the half rotated.
use Rattle.std.proofs.Common.{arith}
use Rattle.des_plain.proofs.PlainSteps.{turned_is}
use Rattle.des_plain.proofs.turned.Goals as goal

pub returns : goal.returns
returns c = turned_is c.args.half c.args.n (omega arith)
