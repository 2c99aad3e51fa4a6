-- The run stops where its configuration gave no issuer.
use Rattle.std.proofs.Common.{refl}
use Rattle.desk_host.proofs.JournalSteps.{journals-none}
use Rattle.issuer_top.proofs.EndingSteps.{ends-as}
use Rattle.issuer_top.proofs.OpeningSteps.{ends_unopened}
use Rattle.issuer_top.proofs.run.Run.not_opened.Goals as goal

pub returns : goal.returns
returns g c =
    let stopped = c.stop.ensures in
    rw stopped.2 (λ given name none.
    ends-as _ _ _ stopped.0 refl
    (ends_unopened name _ _ refl
    (journals-none g.D.Journal.Store _ _ c.none-journals.ensures.olds c.none-journals.ensures.stores) _ _ refl none stopped.1))
