-- Both parts agree, or differ first in a line.
use Rattle.std.proofs.Common.{◌≡◌, ◌≢◌, ◌<◌, ◌≤◌, ◌+◌, ◌++◌, ℕ, Bool, List, drop, take, length, ap, sym, subst, ◌∙◌, arith, length-take, true, false}
use Rattle.std.specs.Prelude.{slice_index}
use Rattle.std.proofs.lemmas.List.{take-append-le}
use Rattle.shard_book.specs.Loads.{Reads, ReadsBoth}
use Rattle.shard_book.proofs.BothStores.{both-first, both-on, both-second, reads-from}
use Rattle.shard_book.proofs.LoadStops.{reasons-alike}
use Rattle.shard_book.proofs.Migration.{line-later, part-agrees, part-differs, within-told}
use Rattle.shard_book.proofs.migrating.check_part.Given.{Over}
use Rattle.shard_book.proofs.migrating.check_part.Goals.{In-Ok-read_from}
use Rattle.shard_book.proofs.migrating.check_part.Goals as goal

-- the bytes that were read of the store
ours-are : (g : Over) (c : In-Ok-read_from g)
    → take c.in-Ok-read_from.count (c.read_from.new.into ++ drop c.min-room.result c.args.ours.now) ≡ take c.in-Ok-read_from.count c.read_from.new.into
ours-are g c =
    let all = c.in-Ok-read_from.ensures.all in
    take-append-le c.in-Ok-read_from.count c.read_from.new.into (drop c.min-room.result c.args.ours.now) (omega (arith, all))

-- they are no more than those of the text
few : (g : Over) (c : In-Ok-read_from g) → c.in-Ok-read_from.count ≤ c.in-Ok.given
few g c =
    let all = c.in-Ok-read_from.ensures.all in
    let same = c.read_from.auto.into in
    let room = c.min-room.ensures in
    let cut = length-take c.min-room.result c.args.ours.now in
    omega (arith, all, same, room, cut)

pub returns-in_default-clause-read : goal.returns-in_default-clause-read
returns-in_default-clause-read g c = both-first g.S.Store true _ _ _ c.in_default.ensures.read

pub returns-in_default-read_from-clause-read : goal.returns-in_default-read_from-clause-read
returns-in_default-read_from-clause-read g c =
    both-on g.S.Store true _ _ _ _ _ _ (both-first g.S.Store false _ _ _ c.in-Ok.ensures.read)
    (both-second g.S.Store true _ _ _ (reads-from g.S.Store true _ _ c.read_from.ensures.size c.read_from.ensures.bytes c.read_from.ensures.disk
    c.in_default-read_from.ensures.room c.in_default-read_from.ensures.count))

-- what was read of both stores didn't fail
both-read : (g : Over) (c : In-Ok-read_from g)
    → ReadsBoth g.S.Store.size g.S.Store.bytes g.S.Store.disk g.S.Store.room g.S.Store.faults false c.args.old.now c.read_text.new.old c.args.store.now
    c.read_from.new.store
both-read g c =
    both-on g.S.Store false _ _ _ _ _ _ (both-first g.S.Store false _ _ _ c.in-Ok.ensures.read)
    (both-second g.S.Store false _ _ _ (reads-from g.S.Store false _ _ c.read_from.ensures.size c.read_from.ensures.bytes c.read_from.ensures.disk
    c.in-Ok-read_from.ensures.room c.in-Ok-read_from.ensures.count))

pub returns-in-None-clause-read : goal.returns-in-None-clause-read
returns-in-None-clause-read g c = both-read g (goal.at.returns-in-None-clause-read g c).In-Ok-read_from

pub returns-in-None-clause-agree : goal.returns-in-None-clause-agree
returns-in-None-clause-agree g c text after =
    let read = (goal.at.returns-in-None-clause-agree g c).In-Ok-read_from in
    part-agrees (g.S.Store.bytes c.args.old.now) (g.S.Store.bytes c.args.store.now) text c.read_from.new.into c.read_text.new.into c.args.at c.in-Ok.given
    c.in-Ok-read_from.count (g.met.S.Store.told_alike c.args.old.now c.args.store.now) (c.in-Ok.ensures.given text after) c.in-Ok-read_from.ensures.given
    (few g read) (sym (ours-are g read) ∙ c.in-None.ensures)

pub returns-in-Some-clause-differ : goal.returns-in-Some-clause-differ
returns-in-Some-clause-differ g c text after front =
    let read = (goal.at.returns-in-Some-clause-differ g c).In-Ok-read_from in
    let count : ℕ = c.in-Ok-read_from.count in
    let same : ℕ = c.in-Some.same in
    let ours = c.read_from.new.into in
    let its = ours-are g read in
    let all = c.in-Ok-read_from.ensures.all in
    let some = c.in-Ok.ensures.some in
    let long = length-take count ours in
    let below = c.in-Some.ensures.0 in
    let long_text = after.long in
    part-differs (g.S.Store.bytes c.args.old.now) (g.S.Store.bytes c.args.store.now) text ours c.read_text.new.into c.args.at c.in-Ok.given count same
    c.line_fault.result (g.met.S.Store.told_alike c.args.old.now c.args.store.now) (c.in-Ok.ensures.given text after) c.in-Ok-read_from.ensures.given
    (few g read)
    (let inside : same < length (take count ours) = subst (λ (l : List ℕ). same < length l) its below in omega (arith, inside, long))
    some.1 (omega (arith, all)) (omega (arith, some.2, long_text))
    (ap (take same) (sym its) ∙ c.in-Some.ensures.1)
    (subst (λ (l : List ℕ). slice_index l same ≢ slice_index (take count c.read_text.new.into) same) its c.in-Some.ensures.2)
    (within-told (g.S.Store.bytes c.args.store.now) (g.S.Store.size c.args.store.now) (c.args.at + count) (g.met.S.Store.told_size c.args.store.now)
    (omega (arith, all)))
    front
    (line-later (g.S.Store.bytes c.args.store.now) _ (c.args.at + same) c.line_fault.result c.in-Ok-read_from.ensures.bytes c.line_fault.ensures.line)

pub returns-in-Some-clause-read : goal.returns-in-Some-clause-read
returns-in-Some-clause-read g c =
    both-on g.S.Store _ _ _ _ _ _ _ (both-read g (goal.at.returns-in-Some-clause-read g c).In-Ok-read_from)
    (both-second g.S.Store _ _ _ _
    (subst (λ (failed : Bool). Reads g.S.Store.size g.S.Store.bytes g.S.Store.disk g.S.Store.room g.S.Store.faults failed c.read_from.new.store
    c.line_fault.new.store) (sym (reasons-alike ℕ c.line_fault.result)) c.line_fault.ensures.read))
