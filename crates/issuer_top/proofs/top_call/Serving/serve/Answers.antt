-- How a run ends, stage by stage.
use Rattle.std.proofs.Common.{inl}
use Rattle.issuer_top.proofs.EndingSteps.{ends_at_config, says-issuer}
use Rattle.issuer_top.proofs.top_call.Serving.serve.Goals as goal

pub returns-in-Ok : goal.returns-in-Ok
returns-in-Ok g c =
    c.serve_issuer.ensures _ (says-issuer _ _ _ c.in-Ok.ensures.says) c.in-Ok.ensures.sound
    (record { holds_are = c.in-Ok.ensures.kept; faults_are = c.in-Ok.ensures.stood }) c.in-Ok.ensures.kept_logs

pub returns-in-Err : goal.returns-in-Err
returns-in-Err g c =
    ends_at_config _ _ _ (λ stop text stops. inl (inl stops)) _ (c.not_opened.ensures _ _ c.in-Err.ensures.none)
