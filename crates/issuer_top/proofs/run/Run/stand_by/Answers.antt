-- How a run ends that takes a feed, up to its issuer.
use Rattle.std.proofs.Common.{inl}
use Rattle.issuer_top.proofs.EndingSteps.{ends_at_config, says-issuer}
use Rattle.issuer_top.proofs.run.Run.stand_by.Goals as goal

pub returns-in-Ok : goal.returns-in-Ok
returns-in-Ok g c =
    c.load_standby.ensures _ (says-issuer _ _ _ c.in-Ok.ensures.says)
    (record { holds_are = c.in-Ok.ensures.kept; faults_are = c.in-Ok.ensures.stood }) c.in-Ok.ensures.kept_logs

pub returns-in-Err : goal.returns-in-Err
returns-in-Err g c =
    ends_at_config _ _ _ (λ stop text stops. inl (inl stops)) _ (c.not_opened.ensures _ _ c.in-Err.ensures.none)
