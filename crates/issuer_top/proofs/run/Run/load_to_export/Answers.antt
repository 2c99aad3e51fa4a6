-- How a run ends whose journals are loaded to be exported, or aren't.
use Rattle.std.proofs.Common.{inl, inr, refl, sym, ◌∙◌, subst}
use Rattle.desk_host.specs.Configuration.{HasSoundParts}
use Rattle.issuer_top.proofs.ClearingSteps.{loaded-same, says-same}
use Rattle.issuer_top.proofs.EndingSteps.{ends-as, ends_unloaded}
use Rattle.issuer_top.proofs.run.Run.load_to_export.Goals as goal

pub returns-in-Ok : goal.returns-in-Ok
returns-in-Ok g c = λ given said same logs_are.
    c.write_feed.ensures given _ _ (says-same _ _ _ _ c.keep_all.ensures said)
    (loaded-same _ _ _ _ _ logs_are (c.in-Ok.ensures.loaded (subst HasSoundParts (sym c.keep_all.ensures) c.requires)))
    (record {
      holds_are = c.in-Ok.ensures.kept ∙ same.holds_are;
      faults_are = c.in-Ok.ensures.stood refl ∙ same.faults_are;
    })

pub returns-in-Err : goal.returns-in-Err
returns-in-Err g c =
    let stopped = c.not_loaded.ensures in
    rw stopped.2 (λ given said same logs_are.
    ends-as _ _ _ stopped.0 refl
    (ends_unloaded _ _ _ _ (λ stop text none. inl (inr none)) _ _ (says-same _ _ _ _ c.keep_all.ensures said) _ _ _ _
    refl refl refl logs_are same.faults_are c.in-Err.ensures.none.why c.in-Err.ensures.none.left stopped.1))
