-- What is loaded, what a failed load leaves, and what a crash leaves meanwhile.
use Rattle.std.proofs.Common.{subst, sym, ◌∙◌, Bool}
use Rattle.shard_book.specs.declared.replay.TakenOver.{TakenOver}
use Rattle.shard_book.specs.Loads.{CountsBoth, IsLoadedFrom, IsNotLoaded}
use Rattle.shard_book.proofs.Exactly.{image-outside, loads-exactly, loads-image, stops-outside}
use Rattle.shard_book.proofs.LoadResults.{fails-from, loaded-all, loads-from, match-ends, opens-stopped, room-opened, room-there}
use Rattle.shard_book.proofs.LoadStops.{reasons-alike}
use Rattle.shard_book.proofs.shard.Shard.load.Goals as goal

pub returns-in-Ok-clause-loaded : goal.returns-in-Ok-clause-loaded
returns-in-Ok-clause-loaded g c =
    let stores = c.in-Ok.ensures.stores in
    match-ends (IsLoadedFrom c.args.issuer.now c.args.shard c.args.old.now c.take_over.new.old c.args.store)
    (λ back. IsNotLoaded g.S.Store.size g.S.Store.bytes g.S.Store.disk g.S.Store.faults c.args.issuer.now c.args.shard c.args.old.now c.args.store
    back.fault c.take_over.new.old back.store) c.open.result
    (loads-from g.S.Store c.args.issuer.now c.args.shard c.args.old.now c.args.store c.take_over.new.old c.take_over.new.store c.in-Ok.field-0.rows
    c.in-Ok.field-0.taken c.in-Ok.ensures.ends (g.met.S.Store.told_bytes c.take_over.new.store) stores.moves.counts stores.grown stores.moves.room_is
    c.open.result c.in-Ok.ensures.rows.0 c.in-Ok.ensures.rows.1 c.in-Ok.ensures.within c.open.ensures.opened c.open.ensures.room)
    (fails-from g.S.Store c.args.issuer.now c.args.shard c.args.old.now c.args.store c.take_over.new.old c.take_over.new.store c.in-Ok.field-0.rows
    c.in-Ok.field-0.taken c.in-Ok.ensures.ends (g.met.S.Store.told_bytes c.take_over.new.store) stores.moves.counts
    (g.met.S.Store.told_alike c.args.old.now c.args.store) (g.met.S.Store.told_bytes c.args.store) c.open.result c.open.ensures.opened)

pub returns-in-Ok-clause-exact : goal.returns-in-Ok-clause-exact
returns-in-Ok-clause-exact g c known history old_text text =
    loads-exactly c.args.issuer.now c.args.shard known history (g.S.Store.bytes c.args.old.now) (g.S.Store.bytes c.args.store) old_text text c.open.result
    (loaded-all g.S.Store c.args.issuer.now c.args.shard c.args.old.now c.args.store c.take_over.new.old c.take_over.new.store c.in-Ok.field-0.rows
    c.in-Ok.field-0.taken c.in-Ok.ensures.ends (g.met.S.Store.told_bytes c.take_over.new.store) c.open.result c.in-Ok.ensures.rows.1 c.open.ensures.opened)
    (opens-stopped g.S.Store c.args.issuer.now c.args.shard (g.S.Store.bytes c.args.old.now) (g.S.Store.bytes c.args.store) c.take_over.new.store
    c.in-Ok.field-0.rows c.in-Ok.field-0.taken c.open.result c.open.ensures.opened)

pub returns-in-Ok-clause-image : goal.returns-in-Ok-clause-image
returns-in-Ok-clause-image g c known history old_text left =
    loads-image c.args.issuer.now c.args.shard known (g.S.Store.bytes c.args.store) history left (g.S.Store.bytes c.args.old.now) old_text c.open.result
    (loaded-all g.S.Store c.args.issuer.now c.args.shard c.args.old.now c.args.store c.take_over.new.old c.take_over.new.store c.in-Ok.field-0.rows
    c.in-Ok.field-0.taken c.in-Ok.ensures.ends (g.met.S.Store.told_bytes c.take_over.new.store) c.open.result c.in-Ok.ensures.rows.1 c.open.ensures.opened)
    (opens-stopped g.S.Store c.args.issuer.now c.args.shard (g.S.Store.bytes c.args.old.now) (g.S.Store.bytes c.args.store) c.take_over.new.store
    c.in-Ok.field-0.rows c.in-Ok.field-0.taken c.open.result c.open.ensures.opened)

pub returns-in-Ok-clause-room : goal.returns-in-Ok-clause-room
returns-in-Ok-clause-room g c spare has =
    room-opened g.S.Store c.args.issuer.now c.args.shard c.args.old.now c.args.store c.take_over.new.old c.take_over.new.store c.in-Ok.field-0.rows
    c.in-Ok.field-0.taken c.in-Ok.ensures.ends (g.met.S.Store.told_bytes c.take_over.new.store) c.in-Ok.ensures.stores.moves.counts
    c.in-Ok.ensures.stores.grown c.in-Ok.ensures.stores.moves.room_is c.open.result c.open.ensures.room spare has

pub returns-in-Err-clause-exact : goal.returns-in-Err-clause-exact
returns-in-Err-clause-exact g c known history old_text text =
    stops-outside c.args.issuer.now c.args.shard known history (g.S.Store.bytes c.args.old.now) (g.S.Store.bytes c.args.store) c.in-Err.fault old_text text
    c.in-Err.ensures.ends.stops

pub returns-in-Err-clause-image : goal.returns-in-Err-clause-image
returns-in-Err-clause-image g c known history old_text left =
    image-outside c.args.issuer.now c.args.shard known (g.S.Store.bytes c.args.store) history left (g.S.Store.bytes c.args.old.now) old_text
    c.in-Err.fault c.in-Err.ensures.ends.stops

pub returns-in-Err-clause-loaded : goal.returns-in-Err-clause-loaded
returns-in-Err-clause-loaded g c = record {
  stops = c.in-Err.ensures.ends.stops;
  kept = c.in-Err.ensures.ends.kept;
  still = c.in-Err.ensures.ends.still;
  size_is = c.in-Err.ensures.stores.size_is;
  leaves = c.in-Err.ensures.ends.leaves;
  counts =
      subst (λ (failed : Bool). CountsBoth (g.S.Store.faults c.args.old.now) (g.S.Store.faults c.take_over.new.old) (g.S.Store.faults c.args.store)
      (g.S.Store.faults c.take_over.new.store) failed) (reasons-alike TakenOver c.in-Err.fault) c.in-Err.ensures.stores.moves.counts;
  untouched = c.in-Err.ensures.untouched;
}

pub returns-in-Err-clause-room : goal.returns-in-Err-clause-room
returns-in-Err-clause-room g c spare has =
    sym (reasons-alike TakenOver c.in-Err.fault) ∙ c.in-Err.ensures.stores.moves.works has.of_old (room-there spare _ _ has.of_store)
