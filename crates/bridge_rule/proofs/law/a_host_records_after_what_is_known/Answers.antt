-- The lemma is the law.
use Rattle.bridge_rule.proofs.Others.{records-after}
use Rattle.bridge_rule.proofs.law.a_host_records_after_what_is_known.Goals as goal

pub returns : goal.returns
returns c = records-after
