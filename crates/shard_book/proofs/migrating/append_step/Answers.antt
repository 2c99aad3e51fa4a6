-- The next bytes of the text are appended and synced.
use Rattle.std.proofs.Common.{◌≡◌, ℕ, List, Option, take, drop, refl, sym, subst, ◌∙◌, rules, IfSome}
use Rattle.journal_store.proofs.ReadSoFar.{reads-none}
use Rattle.shard_book.specs.Migrating.{IsTextAfter}
use Rattle.shard_book.specs.Versions.{IsPartOf}
use Rattle.journal_store.proofs.Rooms.{room-left}
use Rattle.shard_book.proofs.BothStores.{counts-first}
use Rattle.shard_book.proofs.Migration.{moving-none, moving-sync, moving-then, piece-given, told-appended, told-moving}
use Rattle.shard_book.proofs.migrating.append_step.Given.{Over}
use Rattle.shard_book.proofs.migrating.append_step.Goals.{In-Ok}
use Rattle.shard_book.proofs.migrating.append_step.Goals as goal

-- what was read is the next part of the text
given : (g : Over) (c : In-Ok g) (text : List ℕ) → IsTextAfter (g.S.Store.bytes c.args.old.now) c.args.bytes text
    → IfSome (g.S.Store.bytes c.args.store.now)
    (λ _. take c.in-Ok.count c.read_text.new.into ≡ take c.in-Ok.count (drop (g.S.Store.size c.args.store.now) text))
given g c text after =
    piece-given (g.S.Store.bytes c.args.old.now) (g.S.Store.bytes c.args.store.now) text (take c.in-Ok.count c.read_text.new.into) c.in-Ok.count
    c.len.result (g.S.Store.size c.args.store.now) (g.met.S.Store.told_alike c.args.old.now c.args.store.now) c.len.ensures.size (c.in-Ok.ensures.given text after)

pub returns-in_default-clause-disk : goal.returns-in_default-clause-disk
returns-in_default-clause-disk g c text after part = moving-none text _ _ (reads-none _)

pub returns-in_default-append-clause-part : goal.returns-in_default-append-clause-part
returns-in_default-append-clause-part g c text after part =
    told-appended text (take c.in-Ok.count c.read_text.new.into) c.in-Ok.count (g.S.Store.size c.args.store.now) _ _ _ part
    (g.met.S.Store.told_size c.args.store.now) (given g (goal.at.returns-in_default-append-clause-part g c).In-Ok text after) c.append.ensures.bytes

pub returns-in_default-append-clause-disk : goal.returns-in_default-append-clause-disk
returns-in_default-append-clause-disk g c text after part =
    told-moving text (take c.in-Ok.count c.read_text.new.into) c.in-Ok.count (g.S.Store.size c.args.store.now) _ _ _ _
    (g.met.S.Store.told_bytes c.args.store.now) part (g.met.S.Store.told_size c.args.store.now)
    (given g (goal.at.returns-in_default-append-clause-disk g c).In-Ok text after) c.append.ensures.disk

pub returns-clause-part : goal.returns-clause-part
returns-clause-part g c text after part =
    subst (λ (bytes : Option (List ℕ)). IfSome bytes (IsPartOf text)) (sym c.sync.ensures.bytes)
    (told-appended text (take c.in-Ok.count c.read_text.new.into) c.in-Ok.count (g.S.Store.size c.args.store.now) _ _ _ part
    (g.met.S.Store.told_size c.args.store.now) (given g (goal.at.returns-clause-part g c).In-Ok text after) c.append.ensures.bytes)

pub returns-clause-disk : goal.returns-clause-disk
returns-clause-disk g c text after part =
    moving-then text _ _ _
    (told-moving text (take c.in-Ok.count c.read_text.new.into) c.in-Ok.count (g.S.Store.size c.args.store.now) _ _ _ _
    (g.met.S.Store.told_bytes c.args.store.now) part (g.met.S.Store.told_size c.args.store.now)
    (given g (goal.at.returns-clause-disk g c).In-Ok text after) c.append.ensures.disk)
    (moving-sync text _ _ _ c.sync.ensures.disk)

pub returns-in_default-clause-stores : goal.returns-in_default-clause-stores
returns-in_default-clause-stores g c = record {
  old_read = c.in_default.ensures.read.only;
  works = λ has had. c.in_default.ensures.read.works has;
  room_is = refl;
  counts = counts-first _ _ _ _ c.in_default.ensures.read.counts;
}

pub returns-in_default-append-clause-stores : goal.returns-in_default-append-clause-stores
returns-in_default-append-clause-stores g c = record {
  old_read = c.in-Ok.ensures.read.only;
  works = λ has had. c.in_default-append.ensures.room.works (room-left _ _ _ _ _ _ had refl (let some = c.in-Ok.ensures.some in search rules));
  room_is = c.append.ensures.room.stays;
  counts = search rules;
}

pub returns-clause-stores : goal.returns-clause-stores
returns-clause-stores g c = record {
  old_read = c.in-Ok.ensures.read.only;
  works = search rules;
  room_is = c.sync.ensures.room.stays ∙ c.append.ensures.room.stays;
  counts = search rules;
}
