-- The newlines of one more part are counted.
use Rattle.std.proofs.Common.{ℕ, List, ◌++◌, drop, ap, ◌∙◌, arith, length-take, true, false}
use Rattle.std.proofs.lemmas.List.{take-append-le}
use Rattle.shard_book.specs.Loading.{newlines_in}
use Rattle.shard_book.proofs.BothStores.{reads-from, reads-nothing, reads-on}
use Rattle.shard_book.proofs.Migration.{lines-more, lines-none}
use Rattle.shard_book.proofs.migrating.count_newlines.Goals as goal

pub parts-init : goal.parts-init
parts-init g c = record {
  within = omega arith;
  few = omega arith;
  lines_are = lines-none _;
  read = reads-nothing g.S.Store _;
}

pub returns-in_default-clause-read : goal.returns-in_default-clause-read
returns-in_default-clause-read g c =
    reads-on g.S.Store true _ _ _ c.parts.invariant.read
    (reads-from g.S.Store true _ _ c.read_from.ensures.size c.read_from.ensures.bytes c.read_from.ensures.disk c.in_default.ensures.room
    c.in_default.ensures.count)

pub parts-preserved : goal.parts-preserved
parts-preserved g c =
    let count : ℕ = c.in-Ok.count in
    let into : List ℕ = c.read_from.new.into in
    let all = c.in-Ok.ensures.all in
    let same = c.read_from.auto.into in
    let room = c.min-room.ensures in
    let cut = length-take c.min-room.result c.parts.buffer in
    let some = length-take count (into ++ drop c.min-room.result c.parts.buffer) in
    let most = c.newlines-lines.ensures.few in
    let before = c.parts.invariant in
    let few_before = before.few in
    record {
      within = omega (arith, all, same, room, cut);
      few = omega (arith, most, some, few_before);
      lines_are =
          lines-more _ _ c.parts.at count c.parts.lines c.newlines-lines.result into before.read.only.bytes_are before.lines_are c.in-Ok.ensures.given
          (c.newlines-lines.ensures.lines
          ∙ ap newlines_in (take-append-le count into (drop c.min-room.result c.parts.buffer) (omega (arith, all))));
      read =
          reads-on g.S.Store false _ _ _ before.read
          (reads-from g.S.Store false _ _ c.read_from.ensures.size c.read_from.ensures.bytes c.read_from.ensures.disk c.in-Ok.ensures.room
          c.in-Ok.ensures.count);
    }
