-- The law of a standby that is fed by a primary.
use Rattle.standby_node.proofs.Following.{lines-follow, none-bad}
use Rattle.standby_node.proofs.laws.a_standby_follows_its_primary.Goals as goal

pub returns-clause-prefixes : goal.returns-clause-prefixes
returns-clause-prefixes c issuer primary opening histories lines is_primary = lines-follow issuer primary is_primary opening histories lines

pub returns-clause-none_bad : goal.returns-clause-none_bad
returns-clause-none_bad c issuer primary histories line is_primary legal = none-bad issuer primary is_primary legal histories line
