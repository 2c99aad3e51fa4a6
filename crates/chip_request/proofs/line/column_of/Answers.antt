-- The remainder of a line is no longer than the line.
use Rattle.std.proofs.Common.{sym, ap, length, arith}
use Rattle.chip_request.specs.LineParts.{with_column, line_of}
use Rattle.chip_request.proofs.LineLaws.{left_of_line}
use Rattle.chip_request.proofs.line.column_of.Goals as goal

pub overflow_sub-result : goal.overflow_sub-result
overflow_sub-result c = (left_of_line c.args.line.now c.args.rest.now c.requires).0

pub overflow_cast-result : goal.overflow_cast-result
overflow_cast-result c = let left = left_of_line c.args.line.now c.args.rest.now c.requires in omega arith

pub returns : goal.returns
unfolding line_of
returns c = sym (ap (with_column (length c.args.line.now)) c.requires)
