-- The opened journals gave a host of several callers, or none.
use Rattle.std.proofs.Common.{refl}
use Rattle.line_serving.proofs.LoadingTogether.{host-left, gives-no_shared}
use Rattle.line_serving.proofs.loading.load_together.Goals as goal

pub returns-in-Err-clause-none : goal.returns-in-Err-clause-none
returns-in-Err-clause-none g c =
    let opened = c.in_ok-olds.ensures.opened in
    let stopped = c.in-Err.ensures.stopped in
    let back = c.in-Err.back in
    rw c.no_host.ensures
    (record {
      why =
          gives-no_shared g.D.Journal.Store _ _ _ _ _ _ _ _ _ opened (c.in_ok-olds.ensures.stood refl) back.fault
          stopped;
      left =
          host-left g.D.Journal.Store (g.met.D.Journal.Store g.world.𝓛 g.world.𝓜 g.world.𝓡
          (λ s h. h, λ h. h, λ h. h, λ h. h)).told_bytes
          c.args.prefix.now (g.D.Desk.logs c.args.desk.now) c.args.issuer c.in_ok-olds.field-0.olds.items
          c.load.new.olds.items c.in_ok-olds.field-0.stores.items opened c.in-Err.ensures.olds
          back.shard back.fault back.stores.items stopped;
    })
