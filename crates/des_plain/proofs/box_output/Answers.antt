-- The entry of an S box at the row and column of six bits is the box's output on them, within the table.
use Rattle.std.proofs.Common.{arith}
use Rattle.des_plain.proofs.PlainSteps.{place_below, box_output_is}
use Rattle.des_plain.proofs.box_output.Goals as goal

pub bounds-s_box-row : goal.bounds-s_box-row
bounds-s_box-row c = place_below c.args.six (omega arith)

pub returns : goal.returns
returns c = box_output_is c.args.s_box.now c.args.six (omega arith)
