-- Such messages count nothing.
use Rattle.bridge_rule.proofs.Others.{reads-mark, reads-unreadable}
use Rattle.bridge_rule.proofs.law.a_mark_changes_nothing.Goals as goal

pub returns-clause-mark : goal.returns-clause-mark
returns-clause-mark c = reads-mark

pub returns-clause-unreadable : goal.returns-clause-unreadable
returns-clause-unreadable c = reads-unreadable
