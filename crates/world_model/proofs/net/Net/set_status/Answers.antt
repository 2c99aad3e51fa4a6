-- The row of the card and its shard have the status.
use Rattle.std.proofs.Common.{◌≡◌, ◌<◌, ◌%◌, length, set, sym, ◌∙◌, subst, arith, refl}
use Rattle.issuer_base.specs.declared.entry.Entry.TheVariants.{Status}
use Rattle.world_model.specs.Stepping.{world_of, RowsStand}
use Rattle.world_net.proofs.Hosts.{at, recorded}
use Rattle.world_model.proofs.NetRows.{row-stands, rows-record, shards-record, set-taken}
use Rattle.world_model.proofs.net.Net.set_status.Goals.{In_ok-add}
use Rattle.world_model.proofs.net.Net.set_status.Goals as goal

-- the card's shard has the record
added : (c : In_ok-add) → let world = world_of c.args.self.now in let home = c.args.number % world.issuer.shards in let info = c.info-info.result.now in
    (set world.shards c.from-home.result c.add.new.self ≡ recorded world.shards home (Status info.pan info.psn c.args.status)) × (home < length world.shards)
added c =
    let world = world_of c.args.self.now in
    let info = c.info-info.result.now in
    let at_home : c.from-home.result ≡ c.args.number % world.issuer.shards = c.from-home.ensures ∙ c.shard_of.ensures.number in
    let within : c.from-home.result < length world.shards = omega (arith, c.from-home.ensures, c.shard_of.ensures.below, c.requires.shards) in (
      shards-record world.shards c.from-home.result _ _ _ c.index_mut.result.now c.add.new.self at_home within c.index_mut.ensures.value
          refl c.in_ok-add.ensures.added,
      subst (λ home. home < length world.shards) at_home within,
    )

pub returns-clause-taken : goal.returns-clause-taken
returns-clause-taken c =
    set-taken (world_of c.args.self.now) c.args.number c.args.status c.info-info.result.now _ c.cards.ensures.valid c.info-info.ensures
    c.if-status-gt-MAX_STATUS.false (added (goal.at.returns-clause-taken c).In_ok-add).0

pub returns-clause-rows : goal.returns-clause-rows
returns-clause-rows c =
    let world = world_of c.args.self.now in
    let info = c.info-info.result.now in
    let number = c.args.number in
    let rows = c.args.self.now.rows.items in
    let shards_are = added (goal.at.returns-clause-rows c).In_ok-add in
    let stands =
    row-stands world.issuer rows world.shards c.requires.rows number info c.index_mut-2.result.now c.info-info.ensures c.index_mut-2.ensures.value in
    let row = c.set_status.ensures info (at world.shards (number % world.issuer.shards)).history stands in
    subst (RowsStand world.issuer (set rows number c.set_status.new.self)) (sym shards_are.0)
    (rows-record world.issuer rows world.shards c.requires.rows number info (Status info.pan info.psn c.args.status) c.set_status.new.self
    c.cards.ensures.valid c.requires.shards shards_are.1 c.info-info.ensures refl row)
