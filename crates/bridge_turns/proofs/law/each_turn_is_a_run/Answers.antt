-- Event by event.
use Rattle.bridge_turns.proofs.Turned.{turns-are-runs}
use Rattle.bridge_turns.proofs.law.each_turn_is_a_run.Goals as goal

pub returns : goal.returns
returns c = turns-are-runs
