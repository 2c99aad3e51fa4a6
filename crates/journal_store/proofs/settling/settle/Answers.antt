-- What stays, and what a crash leaves, while a store is truncated to its text.
use Rattle.std.proofs.Common.{refl}
use Rattle.journal_store.proofs.Passing.{crash-sync, crash-cut, told-kept, told-cut_kept}
use Rattle.journal_store.proofs.settling.settle.Goals as goal

pub returns-then-sure-len-clause-crash : goal.returns-then-sure-len-clause-crash
returns-then-sure-len-clause-crash g c = crash-sync c.args.sure _ _ _ c.sync.ensures.disk

pub returns-clause-crash : goal.returns-clause-crash
returns-clause-crash g c = crash-cut c.args.sure _ _ _ c.cut.ensures.disk

pub returns-then-sure-len-clause-kept : goal.returns-then-sure-len-clause-kept
returns-then-sure-len-clause-kept g c = told-kept c.args.sure _ _ c.sync.ensures.bytes

pub returns-clause-kept : goal.returns-clause-kept
returns-clause-kept g c = told-cut_kept c.args.sure _ _ _ _ c.cut.ensures.bytes refl
