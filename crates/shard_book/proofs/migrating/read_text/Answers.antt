-- A part of the first line, or of the old store.
use Rattle.std.proofs.Common.{drop, arith, length-take}
use Rattle.shard_book.proofs.BothStores.{reads-nothing}
use Rattle.shard_book.proofs.Migration.{line-given, old-part}
use Rattle.shard_book.proofs.migrating.read_text.Goals as goal

pub returns-then-at-clause-given : goal.returns-then-at-clause-given
returns-then-at-clause-given g c text after =
    line-given (g.S.Store.bytes c.args.old.now) c.args.bytes c.args.at c.copy_line.result text c.copy_line.new.into after
    c.copy_line.ensures.some.2 c.copy_line.ensures.given

pub returns-then-at-clause-read : goal.returns-then-at-clause-read
returns-then-at-clause-read g c = reads-nothing g.S.Store _

pub returns-clause-given : goal.returns-clause-given
returns-clause-given g c text after =
    let all = c.in-Ok.ensures.all in
    let same = c.read_from.auto.into in
    let room = c.min-room.ensures in
    let cut = length-take c.min-room.result c.args.into.now in
    old-part (g.S.Store.bytes c.args.old.now) c.args.bytes c.args.at c.in-Ok.count text c.read_from.new.into (drop c.min-room.result c.args.into.now) after
    (omega (arith, c.if-at.false)) (omega (arith, all, same, room, cut)) (omega (arith, all)) c.in-Ok.ensures.given
