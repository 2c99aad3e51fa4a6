-- The law of a standby's restart.
use Rattle.issuer_top.proofs.StandbyRestarts.{standby-loads}
use Rattle.issuer_top.proofs.restart.every_image_of_a_standby_loads_again.Goals as goal

pub returns : goal.returns
returns c = standby-loads
