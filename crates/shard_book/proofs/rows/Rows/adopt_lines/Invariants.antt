-- What was replayed so far is a prefix of the text.
use Rattle.std.proofs.Common.{◌≡◌, ◌+◌, ◌-◌, ◌≤◌, List, length}
use Rattle.issuer_base.specs.declared.entry.Entry.{Entry}
use Rattle.card_history.specs.LegalRecords.{IsLegalHistory}
use Rattle.shard_book.specs.Versions.{grounds_in}
use Rattle.shard_book.specs.ShardRows.{AreRowsOf, AreSame, RowsStandFor}
use Rattle.shard_book.specs.Loading.{TakesLines}
use Rattle.shard_book.proofs.rows.Rows.adopt_lines.Given as goal

abbrev pub invariant-lines : goal.invariant-lines
invariant-lines l = record {
  rows : AreRowsOf l.issuer l.self;
  same : AreSame l.fn.self l.self;
  within : l.taken.bytes ≤ length l.text;
  few : l.taken.records + l.taken.records ≤ l.taken.bytes;
  taken : (history : List Entry) → RowsStandFor l.issuer l.fn.self history → l.place ≡ length history
      → IsLegalHistory (grounds_in l.version l.issuer) l.fn.self.shard history → TakesLines l.version l.issuer l.fn.self.shard history l.text l.taken l.self;
}

abbrev pub decreases-lines : goal.decreases-lines
decreases-lines l = length l.text - l.taken.bytes
