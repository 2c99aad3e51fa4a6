-- The text of an open record is one line.
use Rattle.std.proofs.Common.{codes, refl}
use Rattle.clearing_check.proofs.OneLine.{numbers-IsLine}
use Rattle.clearing_check.proofs.lines.write_open.Goals as goal

pub returns-clause-line : goal.returns-clause-line
returns-clause-line c = rw c.write_numbers.ensures (numbers-IsLine (codes "open") c.from.result c.args.place refl)
