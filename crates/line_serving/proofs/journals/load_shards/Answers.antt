-- The opened journals were loaded, or weren't.
use Rattle.std.proofs.Common.{◌∙◌, ◌<◌, length, refl, sym, arith}
use Rattle.host_loading.proofs.Loads.{none-loaded, none-read}
use Rattle.shard_book.specs.declared.replay.LoadFault.TheVariants.{NoMemory}
use Rattle.desk_host.proofs.LeftSteps.{back-left}
use Rattle.desk_host.proofs.LoadingSteps.{gives-no_host}
use Rattle.line_serving.proofs.journals.load_shards.Goals as goal

pub returns-in_default-clause-none : goal.returns-in_default-clause-none
returns-in_default-clause-none g c =
    let opened = c.in_ok-olds.ensures.opened in
    let olds = c.in_ok-olds.field-0.olds.items in
    let stores = c.in_ok-olds.field-0.stores.items in
    let some : 0 < length stores = omega (arith, c.in_ok-olds.ensures.some, opened.stores_count) in
    let stopped = none-loaded g.D.Journal.Store c.args.issuer.now olds stores
    (opened.olds_count ∙ sym opened.stores_count) some in
    rw c.no_host.ensures
    (record {
      why = c.in_ok-olds.ensures.stood refl;
      left =
          back-left g.D.Journal.Store (g.met.D.Journal.Store g.world.𝓛 g.world.𝓜 g.world.𝓡
          (λ s h. h, λ h. h, λ h. h, λ h. h)).told_bytes
          c.args.prefix.now (g.D.Desk.logs c.args.desk.now) olds stores
          opened.olds_are opened.stores_are c.args.issuer.now 0 NoMemory olds stores
          (none-read g.D.Journal.Store olds) stopped;
    })

pub returns-in-Err-clause-none : goal.returns-in-Err-clause-none
returns-in-Err-clause-none g c =
    let opened = c.in_ok-olds.ensures.opened in
    let stopped = c.in-Err.ensures.stopped in
    let back = c.in-Err.back in
    rw c.no_host-in-Err.ensures
    (record {
      why =
          gives-no_host g.D.Journal.Store _ _ _ _ _ _ _ _ _ opened (c.in_ok-olds.ensures.stood refl) back.fault stopped;
      left =
          back-left g.D.Journal.Store (g.met.D.Journal.Store g.world.𝓛 g.world.𝓜 g.world.𝓡
          (λ s h. h, λ h. h, λ h. h, λ h. h)).told_bytes
          c.args.prefix.now (g.D.Desk.logs c.args.desk.now) c.in_ok-olds.field-0.olds.items c.in_ok-olds.field-0.stores.items
          opened.olds_are opened.stores_are c.args.issuer.now back.shard back.fault c.load_all.new.olds.items
          back.stores.items c.in-Err.ensures.olds stopped;
    })

pub returns-in-Ok-load_all-clause-ready : goal.returns-in-Ok-load_all-clause-ready
returns-in-Ok-load_all-clause-ready g c = record {
  old_stores = c.in_ok-olds.field-0.olds.items;
  stores = c.in_ok-olds.field-0.stores.items;
  opened = c.in_ok-olds.ensures.opened;
  loaded = c.in-Ok-load_all.ensures.loaded;
  only_read = c.in-Ok-load_all.ensures.olds;
}
