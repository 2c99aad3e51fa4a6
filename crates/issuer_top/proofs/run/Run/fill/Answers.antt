-- How a run ends that fills a DOL.
use Rattle.std.proofs.Common.{refl}
use Rattle.desk_host.proofs.JournalSteps.{journals-none}
use Rattle.issuer_top.proofs.FillingSteps.{ends_filling}
use Rattle.issuer_top.proofs.EndingSteps.{ends-as}
use Rattle.issuer_top.proofs.run.Run.fill.Goals as goal

pub returns : goal.returns
returns g c =
    let texts = c.args.texts.now in
    rw c.ended.ensures
    (ends-as _ _ _ _ refl
    (ends_filling _ texts.dol.items texts.data.items
    (record { config_is = refl; requests_is = refl; desk_stood = refl })
    (journals-none g.D.Journal.Store _ _ c.none-journals.ensures.olds c.none-journals.ensures.stores) _
    c.fill_dol-ending.ensures))
