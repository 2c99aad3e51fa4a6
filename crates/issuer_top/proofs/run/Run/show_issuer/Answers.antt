-- How a run ends whose journals are loaded to show all cards, or aren't.
use Rattle.std.proofs.Common.{inr, refl, ◌∙◌, subst}
use Rattle.desk_host.specs.Journals.{IsReadySolo}
use Rattle.desk_host.specs.SeenStores.{Logged}
use Rattle.issuer_top.proofs.EndingSteps.{ends-as, ends_unloaded}
use Rattle.issuer_top.proofs.run.Run.show_issuer.Goals as goal

pub returns-in-Ok : goal.returns-in-Ok
returns-in-Ok g c = λ given name said sound same same_logs.
    c.show_cards.ensures given name _ _ said
    (subst (λ (l : Logged). IsReadySolo c.args.issuer c.args.journal.now l c.in-Ok.loaded.olds.items
    c.in-Ok.loaded.host) same_logs c.in-Ok.ensures.ready)
    sound (c.in-Ok.ensures.stood refl ∙ same.faults_are)

pub returns-in-Err : goal.returns-in-Err
returns-in-Err g c =
    let stopped = c.not_loaded.ensures in
    rw stopped.2 (λ given name said sound same same_logs.
    ends-as _ _ _ stopped.0 refl
    (ends_unloaded _ _ _ _ (λ stop text none. inr none) _ _ said _ _ _ _ refl refl refl same_logs same.faults_are
    c.in-Err.ensures.none.why c.in-Err.ensures.none.left stopped.1))
