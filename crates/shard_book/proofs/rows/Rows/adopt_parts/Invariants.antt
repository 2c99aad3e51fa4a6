-- What was replayed so far is a prefix of the store's text.
use Rattle.std.proofs.Common.{◌-◌, List, false}
use Rattle.issuer_base.specs.declared.entry.Entry.{Entry}
use Rattle.shard_book.specs.Loading.{IsWithin, ReadsFront}
use Rattle.shard_book.specs.Loads.{Reads}
use Rattle.shard_book.specs.ShardRows.{AreRowsOf, AreSame}
use Rattle.shard_book.proofs.rows.Rows.adopt_parts.Given as goal

abbrev pub invariant-parts : goal.invariant-parts
invariant-parts g l = record {
  rows : AreRowsOf l.issuer l.self;
  same : AreSame l.fn.self l.self;
  within : IsWithin l.taken (g.S.Store.size l.store);
  front : (first : List Entry) → ReadsFront l.version l.issuer l.fn.self.shard first (g.S.Store.bytes l.fn.store) l.fn.self l.fn.from
      → ReadsFront l.version l.issuer l.fn.self.shard first (g.S.Store.bytes l.fn.store) l.self l.taken;
  read : Reads g.S.Store.size g.S.Store.bytes g.S.Store.disk g.S.Store.room g.S.Store.faults false l.fn.store l.store;
}

abbrev pub decreases-parts : goal.decreases-parts
decreases-parts g l = g.S.Store.size l.store - l.taken.bytes
