-- How a run ends that came to its clearing file.
use Rattle.std.proofs.Common.{refl, ◌∙◌, subst}
use Rattle.issuer_top.specs.Opening.{GivesInput}
use Rattle.issuer_top.proofs.EndingSteps.{ends-as, gives_input}
use Rattle.issuer_top.proofs.ClearingSteps.{ends_no_clearing, ends_clearing}
use Rattle.issuer_top.proofs.run.Run.check_lines.Goals as goal

pub returns-in-Err : goal.returns-in-Err
returns-in-Err g c =
    let stopped = c.stop.ensures in
    rw stopped.2 (λ given config_name journal said stay counted filed same.
    ends-as _ _ _ stopped.0 refl
    (ends_no_clearing config_name _ journal _ _ said stay counted (Unit {0}) _ _ c.in-Err.fault _ refl refl
    same.faults_are
    c.in-Err.ensures.count c.in-Err.ensures.last (rw c.stop_of.ensures at stopped.1)))

pub returns : goal.returns
returns g c =
    rw c.ended.ensures (λ given config_name journal said stay counted filed same.
    ends-as _ _ _ _ refl
    (ends_clearing config_name _ journal _ _ said stay counted _ _
    (record { config_is = refl; requests_is = refl; desk_stood = c.in-Ok.ensures.count.counted ∙ same.faults_are }) refl
    (subst (λ told. GivesInput (told c.args.name.now) (g.D.Input.Source.left c.in-Ok.clearing)) same.holds_are
    (gives_input _ _ c.in-Ok.ensures.input c.in-Ok.ensures.absent))
    _ filed _ _ _ _ _ c.clear-served.ensures.cleared c.clear-served.ensures.sink_count c.in-Ok.ensures.new
    c.clear-served.ensures.source_count c.end_serving-ending.ensures))
