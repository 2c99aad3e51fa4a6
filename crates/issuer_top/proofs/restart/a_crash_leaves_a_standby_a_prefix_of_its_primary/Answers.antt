-- The law of what a crash leaves of a standby.
use Rattle.issuer_top.proofs.ReplicaCrashes.{after-left, meanwhile-left}
use Rattle.issuer_top.proofs.restart.a_crash_leaves_a_standby_a_prefix_of_its_primary.Goals as goal

pub returns-clause-meanwhile : goal.returns-clause-meanwhile
returns-clause-meanwhile c = meanwhile-left

pub returns-clause-after : goal.returns-clause-after
returns-clause-after c = after-left
