-- The lemma is the law.
use Rattle.bridge_rule.proofs.Others.{publishes}
use Rattle.bridge_rule.proofs.law.what_is_known_is_published.Goals as goal

pub returns : goal.returns
returns c = publishes
