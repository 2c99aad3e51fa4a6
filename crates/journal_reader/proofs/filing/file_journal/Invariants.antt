-- The records so far are filed.
use Rattle.std.proofs.Common.{◌+◌, ◌-◌, false}
use Rattle.issuer_base.specs.OutsideFaults.{CountsFaults}
use Rattle.shard_book.specs.Loads.{IsOnlyRead}
use Rattle.journal_reader.specs.Reading.{IsWithin}
use Rattle.journal_reader.specs.Filing.{AreBefore}
use Rattle.journal_reader.proofs.Filed.{HasFiled}
use Rattle.journal_reader.proofs.filing.file_journal.Given as goal

abbrev pub invariant-records : goal.invariant-records
invariant-records g l = record {
  filed : HasFiled l.issuer l.shard (g.S.Store.bytes l.fn.store) l.fn.book l.book l.reader l.place;
  within : IsWithin l.reader (g.S.Store.size l.fn.store);
  before : AreBefore l.issuer l.shard l.fn.book → AreBefore l.issuer (l.shard + 1) l.book;
  only_read : IsOnlyRead g.S.Store.size g.S.Store.bytes g.S.Store.disk g.S.Store.room l.fn.store l.store;
  counts : CountsFaults (g.S.Store.faults l.fn.store) (g.S.Store.faults l.store) false;
}

abbrev pub decreases-records : goal.decreases-records
decreases-records g l = g.S.Store.size l.fn.store - l.reader.taken
