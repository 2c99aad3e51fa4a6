-- The stores of loaded shards are as loading left them.
use Rattle.line_serving.proofs.Ready.{loaded-from}
use Rattle.line_serving.proofs.journals.load_journals.Goals as goal

pub returns-clause-loaded : goal.returns-clause-loaded
returns-clause-loaded g c sound =
    loaded-from c.args.issuer.now c.args.prefix.now (g.D.Desk.logs c.args.desk.now) _ _ c.in_ok-olds.ensures.ready sound
    (g.met.D.Journal.Store g.world.𝓛 g.world.𝓜 g.world.𝓡 (λ s h. h, λ h. h, λ h. h, λ h. h)).told_bytes _
    c.take_stores.ensures.stores
