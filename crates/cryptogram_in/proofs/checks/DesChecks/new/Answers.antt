-- The lists are empty.
use Rattle.cryptogram_in.proofs.CheckParts.{from-none}
use Rattle.cryptogram_in.proofs.checks.DesChecks.new.Goals as goal

pub returns : goal.returns
returns c = from-none _ _ _ _ c.new.ensures
