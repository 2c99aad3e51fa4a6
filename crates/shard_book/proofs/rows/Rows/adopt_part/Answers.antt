-- The records of one more part are replayed, or a line of it is bad.
use Rattle.std.proofs.Common.{◌≡◌, ◌-◌, ℕ, min, List, Bool, length, take, drop, refl, sym, subst, arith, length-take, true, false}
use Rattle.journal_rec.specs.RecordText.{IsUnbroken}
use Rattle.shard_book.specs.Loads.{Reads}
use Rattle.shard_book.proofs.BothStores.{reads-from}
use Rattle.shard_book.proofs.Loaded.{part-read, part-unbroken, reads-more, stops-more, own-count}
use Rattle.shard_book.proofs.rows.Rows.adopt_part.Goals as goal

pub adopt_lines-requires-clause-room : goal.adopt_lines-requires-clause-room
adopt_lines-requires-clause-room g c =
    let all = c.in-Ok.ensures.all in
    let long = length-take c.in-Ok.count c.read_from.new.into in
    omega arith

pub overflow_add-result : goal.overflow_add-result
overflow_add-result g c =
    let all = c.in-Ok.ensures.all in
    let long = length-take c.in-Ok.count c.read_from.new.into in
    let within = c.in-Ok-adopt_lines.ensures.within in
    omega (arith, within.few, within.within)

pub overflow_add-result-in-Ok-adopt_lines : goal.overflow_add-result-in-Ok-adopt_lines
overflow_add-result-in-Ok-adopt_lines g c =
    let all = c.in-Ok.ensures.all in
    let long = length-take c.in-Ok.count c.read_from.new.into in
    let within = c.in-Ok-adopt_lines.ensures.within in
    omega (arith, within.few, within.within)

pub returns-in-Ok-adopt_lines-clause-front : goal.returns-in-Ok-adopt_lines-clause-front
returns-in-Ok-adopt_lines-clause-front g c first front =
    let chunk : List ℕ = take c.in-Ok.count c.read_from.new.into in
    reads-more c.args.version c.args.issuer.now c.args.self.now.shard first c.args.taken c.in-Ok.count chunk _ c.args.self.now c.adopt_lines.new.self
    c.in-Ok-adopt_lines.more front
    (part-read _ c.args.taken.bytes c.in-Ok.count c.read_from.new.into c.in-Ok.ensures.given chunk refl) c.in-Ok-adopt_lines.ensures.within.within
    (let long = length-take c.in-Ok.count c.read_from.new.into in omega arith)
    (c.in-Ok-adopt_lines.ensures.taken front.history front.stands front.count_is front.legal)

pub returns-in-Ok-adopt_lines-clause-end : goal.returns-in-Ok-adopt_lines-clause-end
returns-in-Ok-adopt_lines-clause-end g c same =
    let chunk : List ℕ = take c.in-Ok.count c.read_from.new.into in
    let none : c.in-Ok-adopt_lines.more.bytes ≡ 0 = omega (arith, same) in
    let all : c.in-Ok.count ≡ min (length c.args.buffer.now) (g.S.Store.size c.args.store.now - c.args.taken.bytes) =
    omega (arith, c.in-Ok.ensures.all, c.read_from.auto.into) in
    part-unbroken _ c.args.taken.bytes c.in-Ok.count (length c.args.buffer.now) (g.S.Store.size c.args.store.now) chunk
    (g.met.S.Store.told_size c.args.store.now) all
    (part-read _ c.args.taken.bytes c.in-Ok.count c.read_from.new.into c.in-Ok.ensures.given chunk refl)
    (subst (λ n. IsUnbroken (drop n chunk)) none c.in-Ok-adopt_lines.ensures.rest)

pub returns-in-Err-clause-front : goal.returns-in-Err-clause-front
returns-in-Err-clause-front g c first front =
    let chunk : List ℕ = take c.in-Ok.count c.read_from.new.into in
    stops-more c.args.version c.args.issuer.now c.args.self.now.shard first c.args.taken c.in-Ok.count chunk _ c.args.self.now c.in-Err.fault front
    (part-read _ c.args.taken.bytes c.in-Ok.count c.read_from.new.into c.in-Ok.ensures.given chunk refl)
    (c.in-Err.ensures.taken front.history front.stands front.count_is front.legal)

pub returns-in_default-clause-read : goal.returns-in_default-clause-read
returns-in_default-clause-read g c =
    reads-from g.S.Store true _ _ c.read_from.ensures.size c.read_from.ensures.bytes c.read_from.ensures.disk c.in_default.ensures.room c.in_default.ensures.count

pub returns-in-Ok-adopt_lines-clause-read : goal.returns-in-Ok-adopt_lines-clause-read
returns-in-Ok-adopt_lines-clause-read g c =
    reads-from g.S.Store false _ _ c.read_from.ensures.size c.read_from.ensures.bytes c.read_from.ensures.disk c.in-Ok.ensures.room c.in-Ok.ensures.count

pub returns-in-Err-clause-read : goal.returns-in-Err-clause-read
returns-in-Err-clause-read g c =
    subst (λ (failed : Bool). Reads g.S.Store.size g.S.Store.bytes g.S.Store.disk g.S.Store.room g.S.Store.faults failed c.args.store.now
    c.read_from.new.store) (sym (own-count c.in-Err.fault c.in-Err.ensures.own))
    (reads-from g.S.Store false _ _ c.read_from.ensures.size c.read_from.ensures.bytes c.read_from.ensures.disk c.in-Ok.ensures.room c.in-Ok.ensures.count)
