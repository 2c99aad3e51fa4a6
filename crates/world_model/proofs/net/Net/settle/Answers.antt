-- The decision in doubt is recorded, or dropped.
use Rattle.std.proofs.Common.{◌≡◌, sym, subst, OnOk}
use Rattle.world_net.specs.WorldState.{WorldState}
use Rattle.world_model.specs.Stepping.{world_of, RowsStand}
use Rattle.world_model.proofs.NetRows.{rows-doubt}
use Rattle.world_model.proofs.NetWrites.{reached-sound, doubt-read, doubt-legal, doubt-settled, shards-doubt}
use Rattle.world_model.proofs.net.Net.settle.Goals as goal

pub join-requires-clause-legal : goal.join-requires-clause-legal
join-requires-clause-legal c =
    let world = world_of c.args.self.now in
    doubt-legal world (reached-sound world c.requires.reached) c.args.home c.in-Some.exchange
    (doubt-read world.shards c.args.home _ c.index.result.now c.requires.home c.index.ensures c.in-Some.ensures)

pub returns-then-kept-clause-done : goal.returns-then-kept-clause-done
returns-then-kept-clause-done c =
    let world = world_of c.args.self.now in
    subst (λ (w : WorldState). OnOk c.join.result (world_of c.join.new.self ≡ w))
    (doubt-settled world (reached-sound world c.requires.reached) c.args.home c.in-Some.exchange c.args.kept
    (doubt-read world.shards c.args.home _ c.index.result.now c.requires.home c.index.ensures c.in-Some.ensures) c.if-kept.true)
    c.join.ensures.done

pub returns-clause-rows : goal.returns-clause-rows
returns-clause-rows c =
    let world = world_of c.args.self.now in
    subst (RowsStand world.issuer c.args.self.now.rows.items)
    (sym (shards-doubt world.shards c.args.home _ c.index_mut.result.now c.set_doubt.new.self c.requires.home c.index_mut.ensures.value c.set_doubt.ensures))
    (rows-doubt world.issuer c.args.self.now.rows.items world.shards c.requires.rows c.args.home _ c.requires.home)
