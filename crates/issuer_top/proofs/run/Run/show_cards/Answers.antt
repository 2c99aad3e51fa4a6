-- How a run ends that shows all cards.
use Rattle.std.proofs.Common.{refl, ap, sym, subst}
use Rattle.issuer_setup.specs.IssuerSetup.{Setup}
use Rattle.host_loading.specs.Hosts.{AreShards, Stand}
use Rattle.issuer_base.specs.Sink.{WritesAll}
use Rattle.desk_host.specs.SeenStores.{journals_seen}
use Rattle.desk_host.specs.Shown.{shown_text}
use Rattle.issuer_top.specs.Ways.{EndsBy}
use Rattle.desk_host.proofs.LoadedLaws.{lawful-loaded}
use Rattle.desk_host.proofs.KeptSteps.{begins, keep-journals}
use Rattle.issuer_top.proofs.EndingSteps.{ends-as}
use Rattle.issuer_top.proofs.ShowingEnds.{ends_showing}
use Rattle.issuer_top.proofs.run.Run.show_cards.Goals as goal

pub returns : goal.returns
returns g c =
    rw c.ended.ensures (λ given name journal issuer said ready sound stood.
    let logs = g.D.Desk.logs given in
    let host = c.args.loaded.host in
    let olds = c.args.loaded.olds.items in
    let shards = subst (λ (i : Setup). AreShards i host.shards.items) ready.issuer_is host.are_shards in
    let first = begins issuer journal logs olds host.shards.items ready.shards in
    let kept = keep-journals issuer journal logs olds host.shards.items host.shards.items ready.shards shards shards
    (g.met.D.Journal.Store g.world.𝓛 g.world.𝓜 g.world.𝓡 (λ s h. h, λ h. h, λ h. h, λ h. h)).told_bytes _
    (ap (journals_seen g.D.Journal.Store olds) c.close-stores.ensures.stores) first.books first.has_run.stand
    first.has_run.leave in
    let shown = subst (λ (i : Setup). Stand i host.shards.items first.books
    → WritesAll (g.W.Sink.held c.args.out.now) (g.W.Sink.held c.show.new.out) c.show.result
    (shown_text i first.books i.cards)) ready.issuer_is (c.show.ensures.shown first.books) in
    ends-as _ _ _ _ refl
    (subst (EndsBy _ _) (sym c.end_writing-ending.ensures)
    (ends_showing name journal _ issuer first.books
    (record { config_is = refl; requests_is = refl; desk_stood = stood }) said kept
    (lawful-loaded issuer journal logs olds host.shards.items ready.shards shards sound) _
    (shown first.has_run.stand) c.show.ensures.count)))
