-- How a run ends whose journals are read again, and filed or not.
use Rattle.std.proofs.Common.{refl}
use Rattle.issuer_top.proofs.ClearingSteps.{fail-filing, files-books, stops-filing, ends_unchecked, ends_unfiled}
use Rattle.issuer_top.specs.ReadAgain.{none_fails}
use Rattle.issuer_top.proofs.ReadingSteps.{fail-read, stay-loaded, stay-again, stood-loaded}
use Rattle.issuer_top.proofs.EndingSteps.{ends-as}
use Rattle.issuer_top.proofs.run.Run.file_records.Goals as goal

pub returns-in-Err : goal.returns-in-Err
returns-in-Err g c =
    let stopped = c.stop.ensures in
    rw stopped.2 (λ given config_name journal said loaded same.
    ends-as _ _ _ stopped.0 refl
    (ends_unchecked config_name _ journal _ _ said (stay-loaded g.D.Journal.Store _ _ _ _ _ loaded)
    (stood-loaded g.D.Journal.Store _ _ _ _ _ loaded) _
    (record { config_is = refl; requests_is = refl; desk_stood = same.faults_are }) stopped.1))

pub returns-in-Ok-file_journals : goal.returns-in-Ok-file_journals
unfolding stay-again
returns-in-Ok-file_journals g c = λ given config_name journal said loaded same.
    let again = c.in-Ok-file_journals.ensures in
    c.check_lines.ensures given config_name journal said
    (stay-again g.D.Journal.Store _ _ _ _ _ loaded _ again.only_read)
    (fail-read g.D.Journal.Store _ _ _ _ _ loaded _ again.only_read none_fails again.count)
    (files-books g.D.Journal.Store _ _ _ _ _ loaded _ again.only_read _ again.filed)
    same

pub returns-in-Err-file_journals : goal.returns-in-Err-file_journals
returns-in-Err-file_journals g c =
    let stopped = c.stop-in-Err-file_journals.ensures in
    let again = c.in-Err-file_journals.ensures in
    let none = c.in-Err-file_journals.none in
    rw stopped.2 (λ given config_name journal said loaded same.
    ends-as _ _ _ stopped.0 refl
    (ends_unfiled config_name _ journal _ _ said (stay-again g.D.Journal.Store _ _ _ _ _ loaded _ again.only_read) none.fault
    none.shard
    (fail-filing g.D.Journal.Store _ _ _ _ _ loaded _ again.only_read none.shard none.fault again.count) _
    (record { config_is = refl; requests_is = refl; desk_stood = same.faults_are })
    (stops-filing g.D.Journal.Store _ _ _ _ _ loaded _ again.only_read none.shard again.exact.0 none.fault again.exact.1
    again.count)
    (rw c.stop_of_filing-stop.ensures at stopped.1)))
