-- The law of a clearing check's totals.
use Rattle.journal_reader.proofs.Totals.{accounts-for}
use Rattle.journal_reader.proofs.accounts.every_approval_is_accounted_for.Goals as goal

pub returns : goal.returns
returns c = λ issuer histories lines once known. accounts-for issuer histories once known lines
