-- The laws of a line.
use Rattle.standby_node.proofs.Lines.{takes-bad, takes-one}
use Rattle.standby_node.proofs.laws.a_line_does_one_thing.Goals as goal

pub returns-clause-one : goal.returns-clause-one
returns-clause-one c issuer histories after other line = takes-one issuer histories line after other

pub returns-clause-not_bad : goal.returns-clause-not_bad
returns-clause-not_bad c issuer histories after line = takes-bad issuer histories line after
