-- The records so far are replayed.
use Rattle.std.proofs.Common.{◌≡◌, List, length, take}
use Rattle.issuer_base.specs.declared.entry.Entry.{Entry}
use Rattle.card_history.specs.LegalRecords.{IsLegalHistory}
use Rattle.shard_book.specs.Versions.{grounds_in}
use Rattle.shard_book.specs.ReadAhead.{TakesAll}
use Rattle.shard_book.specs.ShardRows.{AreRowsOf, AreSame, RowsStandFor}
use Rattle.shard_book.proofs.rows.Rows.adopt_all.Given as goal

abbrev pub invariant-loop-i : goal.invariant-loop-i
invariant-loop-i l = record {
  rows : AreRowsOf l.issuer l.self;
  same : AreSame l.fn.self l.self;
  taken : (history : List Entry) → RowsStandFor l.issuer l.fn.self history → l.fn.place ≡ length history
      → IsLegalHistory (grounds_in l.version l.issuer) l.fn.self.shard history
      → TakesAll l.version l.issuer l.fn.self.shard history (take l.i l.ahead.entries) l.self;
}
