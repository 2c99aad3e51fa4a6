-- The run writes the histories record by record.
use Rattle.world_net.proofs.FilledRuns.{histories-run}
use Rattle.world_net.proofs.law.every_legal_history_has_a_run.Goals as goal

pub returns : goal.returns
returns c = histories-run
