-- The feed lines of the records so far are put.
use Rattle.std.proofs.Common.{◌-◌, false}
use Rattle.issuer_base.specs.OutsideFaults.{CountsFaults}
use Rattle.shard_book.specs.Loads.{IsOnlyRead}
use Rattle.journal_reader.specs.Reading.{IsWithin}
use Rattle.journal_reader.proofs.Exported.{HasExported}
use Rattle.journal_reader.proofs.export.Exporter.put_journal.Given as goal

abbrev pub invariant-records : goal.invariant-records
invariant-records g l = record {
  exported : HasExported l.shard (g.S.Store.bytes l.fn.store) (g.W.Sink.held l.fn.out) (g.W.Sink.held l.out)
      l.fn.self.block.text.items l.self.block.text.items l.self.reader l.place;
  within : IsWithin l.self.reader (g.S.Store.size l.fn.store);
  only_read : IsOnlyRead g.S.Store.size g.S.Store.bytes g.S.Store.disk g.S.Store.room l.fn.store l.store;
  counts : CountsFaults (g.S.Store.faults l.fn.store) (g.S.Store.faults l.store) false;
  stood : CountsFaults (g.W.Sink.faults l.fn.out) (g.W.Sink.faults l.out) false;
}

abbrev pub decreases-records : goal.decreases-records
decreases-records g l = g.S.Store.size l.fn.store - l.self.reader.taken
