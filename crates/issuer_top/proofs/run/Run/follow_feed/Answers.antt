-- How a run ends whose journals were loaded for a standby.
use Rattle.std.proofs.Common.{refl, ap, map, ◌∙◌, subst}
use Rattle.shard_book.specs.Shards.{store_in}
use Rattle.host_loading.specs.Books.{histories_of}
use Rattle.desk_host.proofs.KeptSteps.{begins}
use Rattle.desk_host.proofs.LoadedLaws.{lawful-loaded}
use Rattle.issuer_top.specs.Opening.{GivesInput}
use Rattle.issuer_top.proofs.EndingSteps.{ends-as, gives_input}
use Rattle.issuer_top.proofs.StandingSteps.{ends_following, ends_no_feed, ends_unfollowed, ready-hold, ready-stay}
use Rattle.issuer_top.proofs.StandingSteps.{ready-stood, took-feed}
use Rattle.issuer_top.proofs.run.Run.follow_feed.Goals as goal

pub returns-in-Err : goal.returns-in-Err
returns-in-Err g c =
    let stopped = c.stop.ensures in
    let told = (g.met.D.Journal.Store g.world.𝓛 g.world.𝓜 g.world.𝓡 (λ s h. h, λ h. h, λ h. h, λ h. h)).told_bytes in
    rw stopped.2 (λ given config_name journal said ready same.
    ends-as _ _ _ stopped.0 refl
    (ends_unfollowed config_name _ journal _ _ said
    (ready-stay _ journal (g.D.Desk.logs given) _ _ ready c.requires.sound told _ c.take_stores-stores.ensures.stores)
    (ready-stood _ journal (g.D.Desk.logs given) _ _ ready c.requires.sound told _ c.take_stores-stores.ensures.stores) _
    (record { config_is = refl; requests_is = refl; desk_stood = same.faults_are }) stopped.1))

pub returns-in-Err-read : goal.returns-in-Err-read
returns-in-Err-read g c =
    let stopped = c.stop-in-Err-read.ensures in
    let told = (g.met.D.Journal.Store g.world.𝓛 g.world.𝓜 g.world.𝓡 (λ s h. h, λ h. h, λ h. h, λ h. h)).told_bytes in
    rw stopped.2 (λ given config_name journal said ready same.
    ends-as _ _ _ stopped.0 refl
    (ends_no_feed config_name _ journal _ _ said
    (ready-stay _ journal (g.D.Desk.logs given) _ _ ready c.requires.sound told _
    c.take_stores-stores-in-Err-read.ensures.stores)
    (ready-stood _ journal (g.D.Desk.logs given) _ _ ready c.requires.sound told _
    c.take_stores-stores-in-Err-read.ensures.stores)
    (Unit {0}) _ _ c.in-Err-read.fault _ refl refl same.faults_are
    c.in-Err-read.ensures.count c.in-Err-read.ensures.last (rw c.stop_of.ensures at stopped.1)))

pub returns : goal.returns
returns g c =
    let told = (g.met.D.Journal.Store g.world.𝓛 g.world.𝓜 g.world.𝓡 (λ s h. h, λ h. h, λ h. h, λ h. h)).told_bytes in
    rw c.ended.ensures (λ given config_name journal said ready same.
    let issuer = c.args.issuer in
    let logs = g.D.Desk.logs given in
    let olds = c.args.loaded.olds.items in
    let shards = c.args.loaded.lists.shards.items in
    let first = begins issuer journal logs olds shards ready in
    let opened = c.new-node.ensures.opened issuer _ _ (ready-hold issuer journal logs olds shards ready) in
    let it = c.follow-followed.ensures.followed (histories_of first.books) opened in
    ends-as _ _ _ _ refl
    (ends_following config_name _ journal _ _ said _ _
    (record { config_is = refl; requests_is = refl; desk_stood = c.in-Ok-read.ensures.count.counted ∙ same.faults_are })
    refl
    (subst (λ told. GivesInput (told c.args.name.now) (g.D.Input.Source.left c.in-Ok-read.feed)) same.holds_are
    (gives_input _ _ c.in-Ok-read.ensures.input c.in-Ok-read.ensures.absent))
    first.books (lawful-loaded issuer journal logs olds shards ready c.requires.shards c.requires.sound)
    _ it.0 _ _ _ _
    (took-feed issuer journal logs olds shards ready told _ _ c.new-node.ensures.shards _ c.follow-followed.ensures.kept
    c.requires.sound _ _ it.0 it.1 _ (c.take_stores-stores-2.ensures.stores ∙ ap (map store_in) c.promote.ensures))
    it.2 c.follow-followed.ensures.sink_count c.in-Ok-read.ensures.new
    c.follow-followed.ensures.source_count c.end_following-ending.ensures))
