-- The journals of the first shards are filed.
use Rattle.journal_reader.proofs.FiledStores.{AreFiled}
use Rattle.journal_reader.proofs.filing.file_journals.Given as goal

abbrev pub invariant-loop-shard : goal.invariant-loop-shard
invariant-loop-shard g l = record {
  filed : AreFiled g.S.Store l.fn.issuer l.fn.stores.items l.stores.items l.shard l.book;
}
