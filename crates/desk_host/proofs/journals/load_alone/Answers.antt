-- The opened journals gave a host of one caller, or none.
use Rattle.std.proofs.Common.{refl}
use Rattle.desk_host.proofs.LeftSteps.{back-left}
use Rattle.desk_host.proofs.LoadingSteps.{gives-no_host}
use Rattle.desk_host.proofs.journals.load_alone.Goals as goal

pub returns-in-Err-clause-none : goal.returns-in-Err-clause-none
returns-in-Err-clause-none g c =
    let opened = c.in_ok-olds.ensures.opened in
    let stopped = c.in-Err.ensures.stopped in
    let back = c.in-Err.back in
    rw c.no_host.ensures
    (record {
      why =
          gives-no_host g.D.Journal.Store _ _ _ _ _ _ _ _ _ opened (c.in_ok-olds.ensures.stood refl) back.fault stopped;
      left =
          back-left g.D.Journal.Store (g.met.D.Journal.Store g.world.𝓛 g.world.𝓜 g.world.𝓡
          (λ s h. h, λ h. h, λ h. h, λ h. h)).told_bytes
          c.args.prefix.now (g.D.Desk.logs c.args.desk.now) c.in_ok-olds.field-0.olds.items c.in_ok-olds.field-0.stores.items
          opened.olds_are opened.stores_are c.args.issuer back.shard back.fault c.load.new.olds.items
          back.stores.items c.in-Err.ensures.olds stopped;
    })
