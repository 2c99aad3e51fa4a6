-- How a run ends whose journals are read again, and written as a feed or not.
use Rattle.std.proofs.Common.{refl}
use Rattle.issuer_top.proofs.ExportingSteps.{feeds-by, ends_exporting, ends_unexported}
use Rattle.issuer_top.proofs.ReadingSteps.{stay-loaded, stay-again, stood-loaded}
use Rattle.issuer_top.proofs.EndingSteps.{ends-as}
use Rattle.issuer_top.proofs.run.Run.write_feed.Goals as goal

pub returns-in-Err : goal.returns-in-Err
returns-in-Err g c =
    let stopped = c.stop.ensures in
    rw stopped.2 (λ given name journal said loaded same.
    ends-as _ _ _ stopped.0 refl
    (ends_unexported name journal _ _ said (stay-loaded g.D.Journal.Store _ _ _ _ _ loaded)
    (record { config_is = refl; requests_is = refl; desk_stood = same.faults_are })
    (stood-loaded g.D.Journal.Store _ _ _ _ _ loaded) _ stopped.1))

pub returns : goal.returns
unfolding stay-again
returns g c =
    let again = c.export-exported.ensures in
    rw c.ended.ensures (λ given name journal said loaded same.
    ends-as _ _ _ _ refl
    (ends_exporting name journal _ _ said (stay-again g.D.Journal.Store _ _ _ _ _ loaded _ again.only_read)
    (record { config_is = refl; requests_is = refl; desk_stood = same.faults_are }) _ _ _ _
    (feeds-by g.D.Journal.Store _ _ _ _ _ loaded _ again.only_read _ _ _ again.exported again.exact again.store_count)
    again.sink_count c.end_exporting-ending.ensures))
