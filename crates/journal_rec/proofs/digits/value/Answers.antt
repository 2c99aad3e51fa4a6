-- The table has the value of a digit.
use Rattle.std.proofs.Common.{arith}
use Rattle.journal_rec.proofs.DigitTable.{VALUES-at, VALUES-bounded}
use Rattle.journal_rec.proofs.digits.value.Goals as goal

pub returns-clause-exact : goal.returns-clause-exact
returns-clause-exact c = VALUES-at c.args.digit c.from.result 0 (omega arith) c.from.ensures

pub returns-clause-bounded : goal.returns-clause-bounded
returns-clause-bounded c = VALUES-bounded c.args.digit c.from.result 0 (omega arith) c.from.ensures
