-- The journals of the first shards are put.
use Rattle.std.proofs.Common.{false}
use Rattle.issuer_base.specs.OutsideFaults.{CountsFaults}
use Rattle.journal_reader.proofs.ExportedStores.{ArePut}
use Rattle.journal_reader.proofs.export.Exporter.put_journals.Given as goal

abbrev pub invariant-loop-shard : goal.invariant-loop-shard
invariant-loop-shard g l = record {
  put : ArePut g.S.Store l.fn.stores.items l.stores.items l.shard (g.W.Sink.held l.fn.out) (g.W.Sink.held l.out)
      l.self.block.text.items;
  stood : CountsFaults (g.W.Sink.faults l.fn.out) (g.W.Sink.faults l.out) false;
}
