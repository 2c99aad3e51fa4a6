-- How a run ends that came to its request file.
use Rattle.std.proofs.Common.{refl, ◌∙◌, subst}
use Rattle.line_serving.specs.Hosts.{HasServed}
use Rattle.issuer_top.specs.Opening.{GivesInput}
use Rattle.line_blocks.proofs.ServingSteps.{AnswersAll}
use Rattle.issuer_top.proofs.EndingSteps.{ends-as, gives_input}
use Rattle.issuer_top.proofs.ServingEnds.{ends_unserved, ends_no_requests, ends_serving}
use Rattle.issuer_top.proofs.top_call.Serving.serve_requests.Goals as goal

pub returns-in-Err : goal.returns-in-Err
returns-in-Err g c =
    let stopped = c.stop.ensures in
    rw stopped.2 (λ given config journal issuer said ready served sound same.
    ends-as _ _ _ stopped.0 refl
    (ends_unserved config _ journal _ issuer said _
    (record { config_is = refl; requests_is = refl; desk_stood = same.faults_are })
    (c.close-stores.ensures.loaded issuer journal (g.D.Desk.logs given) c.args.loaded.olds.items ready sound) stopped.1))

pub returns-in-Err-read : goal.returns-in-Err-read
returns-in-Err-read g c =
    let stopped = c.stop-in-Err-read.ensures in
    rw stopped.2 (λ given config journal issuer said ready served sound same.
    ends-as _ _ _ stopped.0 refl
    (ends_no_requests config _ journal _ issuer said (Unit {0}) _ _ c.in-Err-read.fault _ refl refl
    (c.close-stores-in-Err-read.ensures.loaded issuer journal (g.D.Desk.logs given) c.args.loaded.olds.items ready sound) same.faults_are
    c.in-Err-read.ensures.count c.in-Err-read.ensures.last (rw c.stop_of.ensures at stopped.1)))

pub returns : goal.returns
returns g c =
    rw c.ended.ensures (λ given config journal issuer said ready served sound same.
    ends-as _ _ _ _ refl
    (ends_serving config _ journal _ issuer said _ _
    (record { config_is = refl; requests_is = refl; desk_stood = c.in-Ok-read.ensures.count.counted ∙ same.faults_are })
    refl
    (subst (λ told. GivesInput (told c.args.name.now) (g.D.Input.Source.left c.in-Ok-read.requests)) same.holds_are
    (gives_input _ _ c.in-Ok-read.ensures.input c.in-Ok-read.ensures.absent))
    (AnswersAll (λ lines text waiting. HasServed c.args.loaded.host lines text waiting c.serve-served.new.host))
    (λ asked text within answered.
    c.close-stores-2.ensures.answered issuer journal (g.D.Desk.logs given) c.args.loaded.olds.items c.args.loaded.host asked
    text ready sound within answered)
    _ _ _ _ _ (c.serve-served.ensures.served c.args.loaded.host served) c.serve-served.ensures.sink_count
    c.in-Ok-read.ensures.new
    c.serve-served.ensures.source_count c.end_serving-ending.ensures))
