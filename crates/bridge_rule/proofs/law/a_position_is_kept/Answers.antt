-- The lemma is the law.
use Rattle.bridge_rule.proofs.Others.{keeps-position}
use Rattle.bridge_rule.proofs.law.a_position_is_kept.Goals as goal

pub returns : goal.returns
returns c = keeps-position
