-- What a run comes to is in order, since its last state is that of a world at the end of a genuine run.
use Rattle.world_play.proofs.PlayedCounts.{every-order}
use Rattle.world_play.proofs.law.every_played_world_is_in_order.Goals as goal

pub returns : goal.returns
returns c = every-order
