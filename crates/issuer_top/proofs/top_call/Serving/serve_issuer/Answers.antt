-- The lines of the request file are answered by as many callers as the words say.
use Rattle.std.proofs.Common.{inl, inr, refl, ◌∙◌, subst}
use Rattle.command_line.specs.Pairs.{request_file}
use Rattle.desk_host.specs.SeenStores.{Logged}
use Rattle.line_serving.specs.Hosts.{IsReady}
use Rattle.issuer_top.proofs.EndingSteps.{ends-as, ends_unloaded}
use Rattle.issuer_top.proofs.ServingEnds.{with-callers}
use Rattle.issuer_top.proofs.top_call.Serving.serve_issuer.Goals as goal

pub returns-in-Ok : goal.returns-in-Ok
returns-in-Ok g c = λ given said sound same same_logs.
    with-callers _ (request_file c.args.names) _ _ _ _ c.in-Ok.ensures.fresh.callers_are
    (c.serve_requests.ensures given _ c.args.names.journal.now c.args.issuer said
    (subst (λ (l : Logged). IsReady c.args.issuer c.args.names.journal.now l c.in-Ok.loaded.olds.items
    c.in-Ok.loaded.host) same_logs
    c.in-Ok.ensures.ready)
    c.in-Ok.ensures.fresh.none_served sound
    (record {
      holds_are = c.in-Ok.ensures.kept ∙ same.holds_are;
      faults_are = c.in-Ok.ensures.stood refl ∙ same.faults_are;
    }))

pub returns-in-Err : goal.returns-in-Err
returns-in-Err g c =
    let stopped = c.not_loaded.ensures in
    rw stopped.2 (λ given said sound same same_logs.
    ends-as _ _ _ stopped.0 refl
    (ends_unloaded _ _ _ _ (λ stop text none. inl (inr none)) _ _ said _ _ _ _ refl refl refl same_logs
    same.faults_are c.in-Err.ensures.none.why c.in-Err.ensures.none.left stopped.1))
