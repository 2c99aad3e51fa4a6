-- What either host leaves.
use Rattle.std.proofs.Common.{sym, subst}
use Rattle.line_serving.specs.Leaving.{LeavesLoaded}
use Rattle.line_serving.specs.Hosts.{callers_of, IsReady}
use Rattle.desk_host.specs.SeenStores.{journals_seen}
use Rattle.line_serving.specs.declared.hosts.LineHost.{LineHost}
use Rattle.line_serving.proofs.HostSteps.{leaves_alone, leaves_together}
use Rattle.line_serving.proofs.hosts.LineHost.close.Goals as goal

pub returns-in-Alone-clause-answered : goal.returns-in-Alone-clause-answered
returns-in-Alone-clause-answered g c = λ issuer prefix logs olds first lines text.
    leaves_alone first c.args.self c.in-Alone.alone _ c.in-Alone.is c.close.ensures.answered issuer prefix logs
    olds lines text

pub returns-in-Together-clause-answered : goal.returns-in-Together-clause-answered
returns-in-Together-clause-answered g c = λ issuer prefix logs olds first lines text.
    leaves_together first c.args.self c.in-Together.lanes _ c.in-Together.is c.close_together.ensures.answered issuer
    prefix logs olds lines text

pub returns-in-Together-clause-loaded : goal.returns-in-Together-clause-loaded
returns-in-Together-clause-loaded g c = λ issuer prefix logs olds ready sound.
    subst (λ (host : LineHost g.row.S.Denot g.S.Store).
    LeavesLoaded (callers_of host) issuer prefix logs (journals_seen g.S.Store olds c.close_together.result.items)) (sym
    c.in-Together.is)
    (c.close_together.ensures.loaded issuer prefix logs olds (subst (IsReady issuer prefix logs olds) c.in-Together.is ready)
    sound)

pub returns-in-Alone-clause-loaded : goal.returns-in-Alone-clause-loaded
returns-in-Alone-clause-loaded g c = λ issuer prefix logs olds ready sound.
    subst (λ (host : LineHost g.row.S.Denot g.S.Store).
    LeavesLoaded (callers_of host) issuer prefix logs (journals_seen g.S.Store olds c.close.result.items)) (sym
    c.in-Alone.is)
    (c.close.ensures.loaded issuer prefix logs olds (subst (IsReady issuer prefix logs olds) c.in-Alone.is ready) sound)
