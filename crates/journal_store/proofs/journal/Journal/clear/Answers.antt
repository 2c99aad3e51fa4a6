-- The moments of a truncation of what is in doubt.
use Rattle.std.proofs.Common.{refl}
use Rattle.journal_store.proofs.Passing.{told-no_call, told-cut, told-cut_bytes, told-last}
use Rattle.journal_store.proofs.journal.Journal.clear.Goals as goal

pub returns-then-not-self-clause-passes : goal.returns-then-not-self-clause-passes
returns-then-not-self-clause-passes g c count text tail holds = told-no_call text tail _ _ holds.disk_is refl

pub returns-in_err-cut-clause-failed : goal.returns-in_err-cut-clause-failed
returns-in_err-cut-clause-failed g c count text tail holds failed = record {
  count_is = holds.count_is;
  sure_is = holds.sure_is;
  tail_is = holds.tail_is;
  bytes_are = told-cut_bytes text tail _ _ _ _ holds.sure_is holds.bytes_are c.cut.ensures.bytes;
  disk_is = told-last text tail _ _ (told-cut text tail _ _ _ _ holds.sure_is holds.disk_is c.cut.ensures.disk);
}

pub returns-in_err-cut-clause-passes : goal.returns-in_err-cut-clause-passes
returns-in_err-cut-clause-passes g c count text tail holds = told-cut text tail _ _ _ _ holds.sure_is holds.disk_is c.cut.ensures.disk

pub returns-clause-passes : goal.returns-clause-passes
returns-clause-passes g c count text tail holds = told-cut text tail _ _ _ _ holds.sure_is holds.disk_is c.cut.ensures.disk
