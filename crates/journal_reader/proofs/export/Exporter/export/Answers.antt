-- What is due is written at the end, or the sink fails at it or before.
use Rattle.std.proofs.Common.{rules}
use Rattle.journal_reader.proofs.ExportedStores.{exports-all, exports-front, exports-short}
use Rattle.journal_reader.proofs.export.Exporter.export.Goals as goal

pub returns-then-is_write_fault-clause-exported : goal.returns-then-is_write_fault-clause-exported
returns-then-is_write_fault-clause-exported g c =
    exports-short g.S.Store.bytes g.S.Store.faults _ _ _ _ _ c.put_journals-read.result (search rules)
    c.put_journals-read.ensures.put c.put_journals-read.ensures.store_count

pub returns-in-Ok-clause-exported : goal.returns-in-Ok-clause-exported
returns-in-Ok-clause-exported g c =
    exports-all g.S.Store.bytes g.S.Store.faults _ _ _ _ _ _ c.put_journals-read.result (search rules) c.put_journals-read.ensures.put
    c.in-Ok.ensures.written

pub returns-in-Err-clause-exported : goal.returns-in-Err-clause-exported
returns-in-Err-clause-exported g c =
    exports-front g.S.Store.bytes g.S.Store.faults _ _ _ _ _ _ c.put_journals-read.result (search rules) c.put_journals-read.ensures.put
    c.in-Err.ensures.written c.put_journals-read.ensures.store_count
