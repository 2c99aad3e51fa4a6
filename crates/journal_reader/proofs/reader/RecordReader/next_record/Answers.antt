-- What was read of the store stays.
use Rattle.shard_book.proofs.BothStores.{only-same, only-then}
use Rattle.journal_reader.proofs.reader.RecordReader.next_record.Goals as goal

pub returns-in-Some-clause-only_read : goal.returns-in-Some-clause-only_read
returns-in-Some-clause-only_read g c = only-same _ _ _ _ _

pub returns-in-None-clause-only_read : goal.returns-in-None-clause-only_read
returns-in-None-clause-only_read g c = only-then _ _ _ _ _ _ _ c.fill.ensures.only_read c.check_rest.ensures.only_read
