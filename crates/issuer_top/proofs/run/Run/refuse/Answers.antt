-- How a run ends whose words are no command.
use Rattle.std.proofs.Common.{refl}
use Rattle.desk_host.proofs.JournalSteps.{journals-none}
use Rattle.issuer_top.proofs.EndingSteps.{ends-as}
use Rattle.issuer_top.proofs.PlayingEnds.{ends_usage}
use Rattle.issuer_top.proofs.run.Run.refuse.Goals as goal

pub returns : goal.returns
returns g c =
    let stopped = c.stop.ensures in
    rw stopped.2
    (ends-as _ _ _ stopped.0 refl
    (ends_usage _ _ (record { config_is = refl; requests_is = refl; desk_stood = refl })
    (journals-none g.D.Journal.Store _ _ c.none-journals.ensures.olds c.none-journals.ensures.stores) stopped.1))
