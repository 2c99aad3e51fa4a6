-- A text splits into whole lines and a remainder in only one way.
use Rattle.line_reader.proofs.LineLaws.{lines-whole_and_rest, IsLinesAndRest-same}
use Rattle.line_reader.proofs.laws.lines_of_parts.Goals as goal

pub returns-clause-lines : goal.returns-clause-lines
returns-clause-lines c = lines-whole_and_rest

pub returns-clause-only : goal.returns-clause-only
returns-clause-only c = IsLinesAndRest-same
