-- The invariant holds at every run's end, which so is safe.
use Rattle.world_net.proofs.Worlds.{sound-run, sound-safe}
use Rattle.world_net.proofs.law.every_world_is_safe.Goals as goal

pub returns : goal.returns
returns c issuer events world valid run = sound-safe world (sound-run issuer events world valid run)
