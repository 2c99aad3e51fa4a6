-- The store is continued.
use Rattle.std.proofs.Common.{arith}
use Rattle.shard_book.proofs.BothStores.{moves-more, takes-second}
use Rattle.shard_book.proofs.Continuing.{agrees-part, continues-moved, continues-read, front-two, stops-moved, text-after}
use Rattle.shard_book.proofs.LoadResults.{match-weaker}
use Rattle.shard_book.proofs.LoadStops.{stops-after, stops-read}
use Rattle.shard_book.proofs.loading.continue_journal.Goals as goal

pub returns-then-len-text_bytes-clause-ends : goal.returns-then-len-text_bytes-clause-ends
returns-then-len-text_bytes-clause-ends g c has =
    let reads = has.reads in
    let read = c.take_text.ensures.read.only in
    match-weaker _ _ _ _ c.take_text.result
    (λ over more.
    continues-read c.args.issuer.now c.args.rows.shard c.args.rows c.args.known (g.S.Store.bytes c.args.old.now) reads (g.S.Store.bytes c.args.store.now)
    (g.S.Store.bytes c.take_text.new.store) (g.S.Store.disk c.args.store.now) (g.S.Store.disk c.take_text.new.store) over.rows over.taken
    read.bytes_are read.disk_is more)
    (λ fault stops.
    stops-read c.args.issuer.now c.args.rows.shard (g.S.Store.bytes c.args.old.now) (g.S.Store.bytes c.args.store.now)
    (g.S.Store.bytes c.take_text.new.store) (g.S.Store.disk c.args.store.now) (g.S.Store.disk c.take_text.new.store) fault
    (stops-after c.args.issuer.now c.args.rows.shard reads.history reads.records reads.legal (g.S.Store.bytes c.args.old.now)
    (g.S.Store.bytes c.args.store.now) fault (g.met.S.Store.told_alike c.args.old.now c.args.store.now) reads.text_is stops)
    read.bytes_are read.disk_is)
    (c.take_text.ensures.ends reads.history
    (front-two c.args.issuer.now c.args.rows.shard c.args.rows c.args.known (g.S.Store.bytes c.args.old.now) reads (g.S.Store.bytes c.args.store.now)
    (g.S.Store.size c.args.store.now) has.agree (g.met.S.Store.told_size c.args.store.now)
    (omega (arith, c.if-len-text_bytes.true, c.len.ensures.size, c.text_bytes.ensures))))

pub returns-then-len-text_bytes-clause-stores : goal.returns-then-len-text_bytes-clause-stores
returns-then-len-text_bytes-clause-stores g c = takes-second g.S.Store c.take_text.result _ _ _ c.take_text.ensures.read

pub returns-in-Ok-clause-ends : goal.returns-in-Ok-clause-ends
returns-in-Ok-clause-ends g c has =
    let reads = has.reads in
    let agree = has.agree in
    let issuer = c.args.issuer.now in
    let shard = c.args.rows.shard in
    let old_bytes = g.S.Store.bytes c.args.old.now in
    let bytes = g.S.Store.bytes c.args.store.now in
    let after = text-after issuer shard c.args.rows c.args.known old_bytes reads in
    let was = agrees-part issuer shard c.args.rows c.args.known old_bytes reads bytes (g.S.Store.size c.args.store.now) agree
    (g.met.S.Store.told_size c.args.store.now) (omega (arith, c.if-len-text_bytes.false, c.len.ensures.size, c.text_bytes.ensures)) in
    continues-moved issuer shard c.args.rows c.args.known old_bytes reads bytes (g.S.Store.bytes c.append_steps.new.store)
    (g.S.Store.disk c.args.store.now) (g.S.Store.disk c.append_steps.new.store) (g.S.Store.size c.args.store.now)
    (g.S.Store.size c.append_steps.new.store) (g.met.S.Store.told_alike c.args.store.now c.append_steps.new.store) was
    (c.append_steps.ensures.part _ after was) (g.met.S.Store.told_size c.args.store.now) (g.met.S.Store.told_size c.append_steps.new.store)
    c.append_steps.ensures.grows (c.append_steps.ensures.disk _ after was) c.in-Ok.ensures.size

pub returns-in-Err-clause-ends : goal.returns-in-Err-clause-ends
returns-in-Err-clause-ends g c has =
    let reads = has.reads in
    let agree = has.agree in
    let issuer = c.args.issuer.now in
    let shard = c.args.rows.shard in
    let old_bytes = g.S.Store.bytes c.args.old.now in
    let bytes = g.S.Store.bytes c.args.store.now in
    let after = text-after issuer shard c.args.rows c.args.known old_bytes reads in
    let was = agrees-part issuer shard c.args.rows c.args.known old_bytes reads bytes (g.S.Store.size c.args.store.now) agree
    (g.met.S.Store.told_size c.args.store.now) (omega (arith, c.if-len-text_bytes.false, c.len.ensures.size, c.text_bytes.ensures)) in
    stops-moved issuer shard c.args.rows c.args.known old_bytes reads bytes (g.S.Store.bytes c.append_steps.new.store)
    (g.S.Store.disk c.args.store.now) (g.S.Store.disk c.append_steps.new.store) (g.S.Store.size c.args.store.now)
    (g.S.Store.size c.append_steps.new.store) (g.met.S.Store.told_alike c.args.store.now c.append_steps.new.store) was
    (c.append_steps.ensures.part _ after was) (g.met.S.Store.told_size c.args.store.now) (g.met.S.Store.told_size c.append_steps.new.store)
    c.append_steps.ensures.grows (c.append_steps.ensures.disk _ after was) (g.met.S.Store.told_alike c.args.old.now c.args.store.now)
    (g.met.S.Store.told_bytes c.args.store.now)

pub returns-in-Ok-clause-stores : goal.returns-in-Ok-clause-stores
returns-in-Ok-clause-stores g c =
    let within = c.requires.known.0.within in
    let whole = c.in-Ok.ensures.size in
    record {
      moves = moves-more g.S.Store _ _ _ _ _ _ _ (omega (arith, within)) c.in-Ok.ensures.stores;
      grown = omega (arith, within, whole);
      size_is = tt;
    }

pub returns-in-Err-clause-stores : goal.returns-in-Err-clause-stores
returns-in-Err-clause-stores g c =
    let within = c.requires.known.0.within in
    record {
      moves = moves-more g.S.Store _ _ _ _ _ _ _ (omega (arith, within)) c.in-Err.ensures.stores;
      grown = tt;
      size_is = λ own. absurd (cc);
    }
