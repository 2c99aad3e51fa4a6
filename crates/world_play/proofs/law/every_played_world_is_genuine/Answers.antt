-- Each state of a played run is that of a world at the end of a genuine run.
use Rattle.world_play.proofs.PlayedStates.{every-genuine}
use Rattle.world_play.proofs.law.every_played_world_is_genuine.Goals as goal

pub returns : goal.returns
returns c = every-genuine
