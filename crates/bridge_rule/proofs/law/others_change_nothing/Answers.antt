-- The lemma is the law.
use Rattle.bridge_rule.proofs.Others.{others-stand}
use Rattle.bridge_rule.proofs.law.others_change_nothing.Goals as goal

pub returns : goal.returns
returns c = others-stand
