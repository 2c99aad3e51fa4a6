-- The law of repeats under another decision table.
use Rattle.shard_book.specs.Replying.{reply_to}
use Rattle.one_caller.specs.Restarts.{with_table}
use Rattle.desk_host.proofs.AnyTable.{held-same, kept-same, reading-same}
use Rattle.desk_host.proofs.deciding.a_repeat_is_answered_without_the_table.Goals as goal

pub returns-clause-asked : goal.returns-clause-asked
returns-clause-asked c = reading-same

pub returns-clause-kept : goal.returns-clause-kept
returns-clause-kept c = λ issuer table shard at place history after other_after request reply won other_won other legal turn other_turn.
    kept-same issuer shard history legal request at place reply turn.1 turn.0 (reply_to (with_table issuer table)) other_won other
    other_after other_turn

pub returns-clause-loads : goal.returns-clause-loads
returns-clause-loads c = held-same
