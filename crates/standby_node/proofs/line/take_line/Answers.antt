-- A line is read and taken at once.
use Rattle.standby_node.proofs.line.take_line.Goals as goal

pub returns-clause-does : goal.returns-clause-does
returns-clause-does g c in_doubt histories hold =
    c.take_read.ensures.does in_doubt histories c.args.line.now hold (c.read_line-read.ensures.read in_doubt histories hold)
