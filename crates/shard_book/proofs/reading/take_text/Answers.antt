-- The records of a store are replayed, and the remainder is checked.
use Rattle.std.proofs.Common.{Bool, length, subst, false}
use Rattle.shard_book.specs.declared.replay.Taken.{Taken}
use Rattle.shard_book.specs.declared.replay.TakenOver.{TakenOver}
use Rattle.shard_book.specs.Loads.{Reads}
use Rattle.shard_book.proofs.BothStores.{reads-on, same-reason}
use Rattle.shard_book.proofs.Loaded.{reads-all, rest-step, rest-stops}
use Rattle.shard_book.proofs.reading.take_text.Goals as goal

pub returns-in-Ok-check_rest-clause-ends : goal.returns-in-Ok-check_rest-clause-ends
returns-in-Ok-check_rest-clause-ends g c first reads =
    reads-all c.args.version c.args.issuer.now c.args.rows.shard first _ c.adopt_parts.new.self c.in-Ok.taken (c.in-Ok.ensures.front first reads)
    (rest-step _ _ c.in-Ok.taken.bytes (length c.args.buffer.now) (length c.adopt_parts.new.buffer) c.in-Ok.ensures.read.only.bytes_are c.adopt_parts.auto.buffer
    c.in-Ok-check_rest.ensures.rest c.in-Ok.ensures.end)

pub returns-in-Ok-check_rest-clause-read : goal.returns-in-Ok-check_rest-clause-read
returns-in-Ok-check_rest-clause-read g c = reads-on g.S.Store false _ _ _ c.in-Ok.ensures.read c.in-Ok-check_rest.ensures.read

pub returns-in-Err-check_rest-clause-read : goal.returns-in-Err-check_rest-clause-read
returns-in-Err-check_rest-clause-read g c =
    reads-on g.S.Store _ _ _ _ c.in-Ok.ensures.read
    (subst (λ (failed : Bool). Reads g.S.Store.size g.S.Store.bytes g.S.Store.disk g.S.Store.room g.S.Store.faults failed c.adopt_parts.new.store
    c.check_rest.new.store) (same-reason (Unit {0}) TakenOver c.in-Err-check_rest.fault) c.in-Err-check_rest.ensures.read)

pub returns-in-Err-clause-read : goal.returns-in-Err-clause-read
returns-in-Err-clause-read g c =
    subst (λ (failed : Bool). Reads g.S.Store.size g.S.Store.bytes g.S.Store.disk g.S.Store.room g.S.Store.faults failed c.args.store.now
    c.adopt_parts.new.store) (same-reason Taken TakenOver c.in-Err.fault) c.in-Err.ensures.read

pub returns-in-Err-check_rest-clause-ends : goal.returns-in-Err-check_rest-clause-ends
returns-in-Err-check_rest-clause-ends g c first reads =
    rest-stops c.args.version c.args.issuer.now c.args.rows.shard first _ _ c.adopt_parts.new.self c.in-Ok.taken (length c.args.buffer.now)
    (length c.adopt_parts.new.buffer) c.in-Err-check_rest.fault c.in-Ok.ensures.read.only.bytes_are c.adopt_parts.auto.buffer
    (c.in-Err-check_rest.ensures.stopped c.args.issuer.now c.args.rows.shard first c.adopt_parts.new.self)
    (c.in-Ok.ensures.front first reads) c.in-Ok.ensures.end
