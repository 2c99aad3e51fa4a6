-- One more line, whose record is added.
use Rattle.std.proofs.Common.{◌≡◌, ◌+◌, ◌-◌, List, take, drop, ap, sym, subst, arith}
use Rattle.std.proofs.lemmas.Slice.Zip.{AllZip-long}
use Rattle.issuer_base.specs.declared.entry.Entry.{Entry}
use Rattle.shard_book.specs.ReadAhead.{AreNext, IsLookedUp}
use Rattle.shard_book.proofs.ReadAhead.{next-more}
use Rattle.shard_book.proofs.ahead.Ahead.read_lines.Goals as goal

pub add-requires-clause-found : goal.add-requires-clause-found
add-requires-clause-found c =
    let ahead = c.lines.self in
    omega (arith, AllZip-long (IsLookedUp c.args.issuer.now) ahead.entries ahead.found c.lines.invariant.found, c.lines-test.true, c.len.ensures)

pub lines-preserved : goal.lines-preserved
lines-preserved c =
    let text = c.args.text.now in
    let from = c.args.from in
    let end = c.lines.end in
    let count = c.in-Some.length in
    let entries : List Entry = c.lines.self.entries in
    let entry : Entry = c.in-Ok.entry in
    let line = take (end + count - end) (drop end text) in
    let line_is : line ≡ take count (drop end text) = ap (λ n. take n (drop end text)) (omega arith) in
    let more : end + count + 1 ≡ end + (count + 1) = omega arith in
    record {
      next =
          subst (AreNext text from c.add.new.self.entries) more
          (subst (λ (entries : List Entry). AreNext text from entries (end + count + 1)) (sym c.add.ensures.added)
          (next-more text from entries end count entry line c.lines.invariant.next c.in-Some.ensures line_is ((c.read_entry.ensures entry).0 c.in-Ok.is)));
      found = c.add.ensures.found c.lines.invariant.found;
    }
