-- What was read of a configuration says an issuer, or none.
use Rattle.desk_host.proofs.ConfigurationReads.{Says-from_read, GivesNoIssuer-from_read}
use Rattle.desk_host.proofs.config.read_issuer.Goals as goal

pub returns-in-Ok-read_config-clause-says : goal.returns-in-Ok-read_config-clause-says
returns-in-Ok-read_config-clause-says g c =
    Says-from_read _ _ c.in-Ok.text.items _ c.in-Ok.ensures.text
    (rw c.deref.ensures.value at c.in-Ok-read_config.ensures.issuer)

pub returns-clause-none : goal.returns-clause-none
returns-clause-none g c =
    rw c.config_stop.ensures.stop
    (GivesNoIssuer-from_read _ _ c.in-Ok.text.items _ c.in-Ok.ensures.text
    (rw c.deref.ensures.value at c.in-Err.ensures.refused))
