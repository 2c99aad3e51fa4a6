-- The host stands for books without records.
use Rattle.std.proofs.Common.{replicate, ap, sym, subst, Some}
use Rattle.issuer_setup.specs.IssuerSetup.{Setup}
use Rattle.host_loading.specs.Hosts.{Stand}
use Rattle.world_play.specs.Play.{empty_book}
use Rattle.world_play.proofs.EmptyBooks.{opened}
use Rattle.world_play.proofs.Rooms.{room-opened, works-opened}
use Rattle.world_play.proofs.opening.new_house.Goals as goal

pub returns-clause-books : goal.returns-clause-books
returns-clause-books c =
    let olds = c.in_ok-olds.olds.items in
    let stores = c.in_ok-stores.stores.items in
    let shards = c.in_ok-load.field-0.shards.items in
    subst (λ (setup : Setup). Stand setup shards (replicate 4 empty_book)) (sym c.in_ok-load.ensures.issuer)
    (opened c.in_ok-issuer.issuer olds _ stores shards 4 c.in_ok-stores.ensures.count
    (λ number old is. ap Some (c.in_ok-olds.ensures.opened number old is).empty)
    (λ number store is.
    let its = c.in_ok-stores.ensures.opened number store is in
    (ap Some its.empty, its.faults_are)) c.in_ok-load.ensures.loaded)

pub returns-clause-room : goal.returns-clause-room
returns-clause-room c =
    c.in_ok-load.ensures.room _ (room-opened c.args.cards c.args.steps c.in_ok-olds.olds.items c.in_ok-stores.stores.items c.in_ok-olds.ensures.opened
    c.in_ok-stores.ensures.opened)

pub load-requires-clause-empty : goal.load-requires-clause-empty
load-requires-clause-empty c = (
  λ shard store is. (c.in_ok-olds.ensures.opened shard store is).empty,
  λ shard store is. (c.in_ok-stores.ensures.opened shard store is).empty,
)

pub load-requires-clause-works : goal.load-requires-clause-works
load-requires-clause-works c =
    works-opened c.args.cards c.args.steps c.in_ok-olds.olds.items c.in_ok-stores.stores.items c.in_ok-olds.ensures.opened c.in_ok-stores.ensures.opened
