-- A newline after the buffer ends a line that is that of no record. Without one the remainder is a torn line.
use Rattle.std.proofs.Common.{true, false, arith, length, subst, sym}
use Rattle.shard_book.specs.Loading.{StopsReplay}
use Rattle.shard_book.proofs.BothStores.{reads-nothing}
use Rattle.shard_book.proofs.Loaded.{found-as, rest-short, rest-long, stops-long}
use Rattle.shard_book.proofs.reading.check_rest.Goals as goal

pub returns-then-len-from-clause-read : goal.returns-then-len-from-clause-read
returns-then-len-from-clause-read g c = reads-nothing g.S.Store _

pub returns-then-len-from-clause-rest : goal.returns-then-len-from-clause-rest
returns-then-len-from-clause-rest g c front =
    rest-short _ c.args.taken.bytes (length c.args.buffer.now) (g.S.Store.size c.args.store.now) (g.met.S.Store.told_size c.args.store.now)
    (omega (arith, c.if-len-from.true, c.len.ensures.size)) front

pub returns-then-found-clause-stopped : goal.returns-then-found-clause-stopped
returns-then-found-clause-stopped g c issuer shard first rows reads front =
    subst (StopsReplay c.args.version issuer shard first (g.S.Store.bytes c.args.store.now)) (sym c.bad_line.ensures)
    (stops-long c.args.version issuer shard first _ rows c.args.taken (length c.args.buffer.now) (g.S.Store.size c.args.store.now) reads
    (g.met.S.Store.told_size c.args.store.now) (omega (arith, c.if-len-from.false, c.len.ensures.size)) c.requires.room front
    (found-as _ _ _ true c.if-found.true c.in-Ok.ensures.found))

pub returns-clause-rest : goal.returns-clause-rest
returns-clause-rest g c front =
    rest-long _ c.args.taken.bytes (length c.args.buffer.now) front (found-as _ _ _ false c.if-found.false c.in-Ok.ensures.found)
