-- The row of the card and its shard have the command.
use Rattle.std.proofs.Common.{◌≡◌, ◌<◌, ◌%◌, ◌++◌, ◌∷◌, [], length, set, IsOk, ap, sym, ◌∙◌, subst, arith, refl}
use Rattle.issuer_base.specs.declared.command.Command.{Command}
use Rattle.issuer_base.specs.declared.entry.Entry.TheVariants.{Queued}
use Rattle.script_queue.specs.CommandQueue.{TakesOneMore}
use Rattle.row_core.specs.CardRow.{KeptScripts, StandsFor}
use Rattle.shard_book.proofs.RowsAfter.{ok-then}
use Rattle.world_model.specs.Stepping.{world_of, RowsStand}
use Rattle.world_net.proofs.Hosts.{at, recorded}
use Rattle.world_model.proofs.NetRows.{row-stands, rows-record, shards-record, queue-taken}
use Rattle.world_model.proofs.net.Net.queue.Goals.{In_ok-add}
use Rattle.world_model.proofs.net.Net.queue.Goals as goal

-- the card's shard has the record
added : (c : In_ok-add) → let world = world_of c.args.self.now in let home = c.args.number % world.issuer.shards in let info = c.info-info.result.now in
    (set world.shards c.from-home.result c.add.new.self ≡ recorded world.shards home (Queued info.pan info.psn c.args.command.now))
    × (home < length world.shards)
added c =
    let world = world_of c.args.self.now in
    let info = c.info-info.result.now in
    let at_home : c.from-home.result ≡ c.args.number % world.issuer.shards = c.from-home.ensures ∙ c.shard_of.ensures.number in
    let within : c.from-home.result < length world.shards = omega (arith, c.from-home.ensures, c.shard_of.ensures.below, c.requires.shards) in (
      shards-record world.shards c.from-home.result _ _ _ c.index_mut.result.now c.add.new.self at_home within c.index_mut.ensures.value
          (ap (Queued info.pan info.psn) c.copy.ensures)
          c.in_ok-add.ensures.added,
      subst (λ home. home < length world.shards) at_home within,
    )

pub returns-clause-taken : goal.returns-clause-taken
returns-clause-taken c =
    let info = c.info-info.result.now in
    queue-taken (world_of c.args.self.now) c.args.number c.args.command.now info _ c.cards.ensures.valid c.info-info.ensures
    (sym c.is_sendable.ensures ∙ c.if-not-is_sendable.false) ((c.takes_command.ensures info c.info-info.ensures).0 c.if-not-takes_command.false)
    (added (goal.at.returns-clause-taken c).In_ok-add).0

pub returns-clause-rows : goal.returns-clause-rows
returns-clause-rows c =
    let world = world_of c.args.self.now in
    let info = c.info-info.result.now in
    let number = c.args.number in
    let history = (at world.shards (number % world.issuer.shards)).history in
    let rows = c.args.self.now.rows.items in
    let shards_are = added (goal.at.returns-clause-rows c).In_ok-add in
    let takes = (c.takes_command.ensures info c.info-info.ensures).0 c.if-not-takes_command.false in
    let stands =
    row-stands world.issuer rows world.shards c.requires.rows number info c.index_mut-2.result.now c.info-info.ensures c.index_mut-2.ensures.value in
    let ok : IsOk c.push.result =
    c.push.ensures.taken.1 (subst TakesOneMore (sym (ap (λ (kept : KeptScripts). kept.commands) stands.scripts_are)) takes) in
    let there = ok-then c.push.result _ c.push.ensures.queued ok info history stands in
    let row = subst (λ (command : Command). StandsFor info c.push.new.self (history ++ Queued info.pan info.psn command ∷ [])) c.copy-2.ensures there in
    subst (RowsStand world.issuer (set rows number c.push.new.self)) (sym shards_are.0)
    (rows-record world.issuer rows world.shards c.requires.rows number info (Queued info.pan info.psn c.args.command.now) c.push.new.self
    c.cards.ensures.valid c.requires.shards shards_are.1 c.info-info.ensures refl row)
