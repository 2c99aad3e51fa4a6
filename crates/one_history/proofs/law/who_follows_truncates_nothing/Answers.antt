-- A machine that follows truncates nothing.
use Rattle.one_history.specs.Keys.{IsFirst}
use Rattle.one_history.proofs.Following.{only-new, only-after, only-cuts}
use Rattle.one_history.proofs.law.who_follows_truncates_nothing.Goals as goal

pub returns-clause-begins : goal.returns-clause-begins
returns-clause-begins c base name = only-new base name

pub returns-clause-stays : goal.returns-clause-stays
returns-clause-stays c keys world name events allowed none only = only-after (IsFirst keys) world name events allowed none only

pub returns-clause-cuts : goal.returns-clause-cuts
returns-clause-cuts c world name journals only can = only-cuts world name journals only can
