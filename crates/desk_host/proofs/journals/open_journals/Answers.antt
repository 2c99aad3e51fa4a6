-- All journals are opened, or not: the old ones first.
use Rattle.std.proofs.Common.{ℕ, ◌∙◌, arith, refl, subst}
use Rattle.desk_host.specs.Journals.{old_name, journal_name}
use Rattle.desk_host.specs.Loading.{CannotOpen}
use Rattle.desk_host.proofs.JournalSteps.{old-apart, opened-before}
use Rattle.desk_host.proofs.LeftSteps.{only-olds_left, opened-left}
use Rattle.desk_host.proofs.LoadingSteps.{gives-unopened, gives-unopened_old}
use Rattle.desk_host.proofs.journals.open_journals.Goals as goal

pub returns-in-Err-clause-none : goal.returns-in-Err-clause-none
returns-in-Err-clause-none g c =
    let cannot = c.in-Err.ensures.none in
    record {
      why =
          gives-unopened_old g.D.Desk g.D.Journal.Store c.args.issuer.now c.args.prefix.now c.args.desk.now
          c.open_all.new.desk c.in-Err.field-0 c.new.result.items c.new.ensures.items
          (subst (λ (shards : ℕ). CannotOpen g.D.Desk g.D.Journal.Store (old_name c.args.prefix.now) shards
          c.args.desk.now c.open_all.new.desk c.in-Err.field-0) c.shards-shards.ensures.count cannot);
      left =
          only-olds_left g.D.Journal.Store (g.met.D.Journal.Store g.world.𝓛 g.world.𝓜 g.world.𝓡
          (λ s h. h, λ h. h, λ h. h, λ h. h)).told_bytes
          c.args.prefix.now (g.D.Desk.logs c.args.desk.now) c.in-Err.field-0.stores.items c.new.result.items
          c.new.ensures.items cannot.opened;
    }

pub returns-in-Ok-open_all-clause-opened : goal.returns-in-Ok-open_all-clause-opened
returns-in-Ok-open_all-clause-opened g c = record {
  olds_count = c.in-Ok.ensures.count ∙ c.shards-shards.ensures.count;
  stores_count = c.in-Ok-open_all.ensures.count ∙ c.shards-shards.ensures.count;
  olds_are = c.in-Ok.ensures.opened;
  stores_are =
      opened-before g.D.Journal.Store (journal_name c.args.prefix.now) (g.D.Desk.logs c.open_all.new.desk)
      (g.D.Desk.logs c.args.desk.now) c.in-Ok-open_all.stores.items
      (λ shard. c.in-Ok.ensures.elsewhere (journal_name c.args.prefix.now shard)
      (λ other same. old-apart c.args.prefix.now shard other same))
      c.in-Ok-open_all.ensures.opened;
}

pub returns-in-Err-open_all-clause-none : goal.returns-in-Err-open_all-clause-none
returns-in-Err-open_all-clause-none g c =
    let cannot = c.in-Err-open_all.ensures.none in
    let stood = c.in-Ok.ensures.stood refl in
    let count = c.in-Ok.ensures.count in
    let within = cannot.within in
    let stores = cannot.stores_are in
    rw c.no_host.ensures
    (record {
      why =
          gives-unopened g.D.Desk g.D.Journal.Store c.args.issuer.now c.args.prefix.now c.args.desk.now
          c.open_all-2.new.desk c.open_all.new.desk c.in-Ok.olds.items c.in-Err-open_all.back
          (count ∙ c.shards-shards.ensures.count) stood
          (subst (λ (shards : ℕ). CannotOpen g.D.Desk g.D.Journal.Store (journal_name c.args.prefix.now) shards
          c.open_all.new.desk c.open_all-2.new.desk c.in-Err-open_all.back) c.shards-shards.ensures.count cannot);
      left =
          opened-left g.D.Journal.Store (g.met.D.Journal.Store g.world.𝓛 g.world.𝓜 g.world.𝓡
          (λ s h. h, λ h. h, λ h. h, λ h. h)).told_bytes
          c.args.prefix.now (g.D.Desk.logs c.args.desk.now) c.in-Ok.olds.items c.in-Err-open_all.back.stores.items
          c.in-Ok.ensures.opened
          (opened-before g.D.Journal.Store (journal_name c.args.prefix.now) (g.D.Desk.logs c.open_all.new.desk)
          (g.D.Desk.logs c.args.desk.now) c.in-Err-open_all.back.stores.items
          (λ shard. c.in-Ok.ensures.elsewhere (journal_name c.args.prefix.now shard)
          (λ other same. old-apart c.args.prefix.now shard other same)) cannot.opened)
          (omega (arith, count, within, stores));
    })
