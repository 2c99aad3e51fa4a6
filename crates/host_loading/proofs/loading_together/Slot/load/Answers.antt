-- What the load of one shard leaves in its slot.
use Rattle.std.proofs.Common.{◌≡◌, ◌∙◌, sym, subst}
use Rattle.std.proofs.lemmas.Option.{same_Some}
use Rattle.host_loading.specs.Slots.{HasTried}
use Rattle.host_loading.proofs.loading_together.Slot.load.Goals as goal

pub returns : goal.returns
returns g c store is =
    let its = c.unwrap-store.result in
    let same : its ≡ store = same_Some its store (sym c.unwrap-store.ensures ∙ c.take.ensures.value ∙ is) in
    subst
    (λ store. HasTried {G = g.S.Store} c.args.issuer.now c.args.number c.args.self.now.old_store store
    (record { old_store = c.load-loaded.new.old; store = c.take.new.self; loaded = c.replace-empty.new.self }))
    same (record {
      outcome = c.load-loaded.result;
      none_waits = c.take.ensures.after;
      outcome_is = c.replace-empty.ensures.after;
      came = c.load-loaded.ensures.loaded;
      only = c.load-loaded.ensures.old;
      room = c.load-loaded.ensures.room 0;
    })
