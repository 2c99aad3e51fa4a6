-- The law of approvals by the decision table.
use Rattle.config_read.proofs.TableLemmas.{configured-table}
use Rattle.desk_host.proofs.RowApproves.{approvals-within}
use Rattle.desk_host.proofs.deciding.every_approval_is_within_a_row_that_approves.Goals as goal

pub returns-clause-table : goal.returns-clause-table
returns-clause-table c = configured-table

pub returns-clause-approved : goal.returns-clause-approved
returns-clause-approved c = approvals-within
