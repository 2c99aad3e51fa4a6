-- The law of an export that is fed to a standby.
use Rattle.journal_reader.proofs.Feeding.{feed-makes, feed-makes_new}
use Rattle.journal_reader.proofs.copies.an_export_makes_a_standby_its_primary.Goals as goal

pub returns-clause-new : goal.returns-clause-new
returns-clause-new c = λ issuer primary is_primary legal fit. feed-makes_new issuer primary is_primary legal fit

pub returns-clause-behind : goal.returns-clause-behind
returns-clause-behind c = λ issuer primary opening is_primary legal fit before. feed-makes issuer primary is_primary legal fit opening before
