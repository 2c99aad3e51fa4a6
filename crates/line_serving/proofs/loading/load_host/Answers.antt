-- The host of one caller is idle.
use Rattle.std.proofs.Common.{rules}
use Rattle.line_serving.proofs.AloneSteps.{answered-none, idle-alone}
use Rattle.line_serving.proofs.DurableAlone.{recorded-none}
use Rattle.line_serving.proofs.loading.load_host.Goals as goal

pub returns-in_ok-host-clause-fresh : goal.returns-in_ok-host-clause-fresh
returns-in_ok-host-clause-fresh g c =
    let alone = c.new-then-callers-eq1.result in
    let none = c.new-then-callers-eq1.ensures.1 in
    let recorded = recorded-none _ _ _ _ alone.host _ c.new-then-callers-eq1.ensures.0 c.in_ok-host.ensures.ready in
    record { callers_are = search rules; none_served = answered-none alone none; idle = idle-alone alone none recorded }
