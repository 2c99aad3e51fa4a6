-- A newline is found in the part that was read, or this part has none.
use Rattle.std.proofs.Common.{sym, arith, ◌∙◌, [], true, false}
use Rattle.shard_book.proofs.BothStores.{reads-from, reads-nothing, reads-on}
use Rattle.shard_book.proofs.Loaded.{ahead-there, none-there, passed-none, passed-part, passed-all, found-part}
use Rattle.shard_book.proofs.newline.has_newline.Goals as goal

pub parts-init : goal.parts-init
parts-init g c = record {
  above = omega arith;
  within = omega (arith, c.requires.within);
  read = reads-nothing g.S.Store _;
  passed = passed-none _ _;
}

pub returns-in_default-clause-read : goal.returns-in_default-clause-read
returns-in_default-clause-read g c =
    reads-on g.S.Store true _ _ _ c.parts.invariant.read
    (reads-from g.S.Store true _ _ c.read_from.ensures.size c.read_from.ensures.bytes c.read_from.ensures.disk c.in_default.ensures.room
    c.in_default.ensures.count)

pub returns-then-is_some-clause-read : goal.returns-then-is_some-clause-read
returns-then-is_some-clause-read g c =
    reads-on g.S.Store false _ _ _ c.parts.invariant.read
    (reads-from g.S.Store false _ _ c.read_from.ensures.size c.read_from.ensures.bytes c.read_from.ensures.disk c.in-Ok.ensures.room c.in-Ok.ensures.count)

pub returns-then-is_some-clause-found : goal.returns-then-is_some-clause-found
returns-then-is_some-clause-found g c =
    found-part c.args.from c.parts.at c.in-Ok.count (g.S.Store.size c.parts.store) c.read_from.new.into c.parts.invariant.above _ _
    c.parts.invariant.read.only.bytes_are (g.met.S.Store.told_size c.parts.store) c.parts.invariant.within c.parts.invariant.passed
    c.in-Ok.ensures.given (ahead-there _ _ (sym c.is_some.ensures ∙ c.if-is_some.true) c.first_newline.ensures)

pub parts-preserved : goal.parts-preserved
parts-preserved g c = record {
  above = let before = c.parts.invariant.above in omega arith;
  within = let all = c.in-Ok.ensures.all in let before = c.parts.invariant.within in let same = c.read_from.ensures.size in omega arith;
  read =
      reads-on g.S.Store false _ _ _ c.parts.invariant.read
      (reads-from g.S.Store false _ _ c.read_from.ensures.size c.read_from.ensures.bytes c.read_from.ensures.disk c.in-Ok.ensures.room c.in-Ok.ensures.count);
  passed =
      passed-part c.args.from c.parts.at c.in-Ok.count (g.S.Store.size c.parts.store) c.read_from.new.into c.parts.invariant.above _ _
      c.parts.invariant.read.only.bytes_are c.parts.invariant.passed c.in-Ok.ensures.given
      (none-there _ _ (sym c.is_some.ensures ∙ c.if-is_some.false) c.first_newline.ensures);
}

pub returns-clause-found : goal.returns-clause-found
returns-clause-found g c =
    passed-all c.args.from c.parts.at 0 (g.S.Store.size c.parts.store) [] c.parts.invariant.above _ _ c.parts.invariant.read.only.bytes_are
    (g.met.S.Store.told_size c.parts.store) (omega (arith, c.parts-test.false, c.len.ensures.size)) c.parts.invariant.passed
