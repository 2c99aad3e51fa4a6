-- A run's end is safe.
use Rattle.world_model.specs.Stepping.{world_of}
use Rattle.world_model.proofs.NetWrites.{reached-safe}
use Rattle.world_model.proofs.world.World.new.Goals as goal

pub returns-clause-safe : goal.returns-clause-safe
returns-clause-safe c = reached-safe (world_of c.in_ok-net.net) c.in_ok-net.ensures.held.reached
