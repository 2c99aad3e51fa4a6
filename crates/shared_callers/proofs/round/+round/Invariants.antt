use Rattle.std.proofs.Common.{◌+◌, ◌-◌, ◌*◌, length}
use Rattle.shared_callers.proofs.round.+round.Given as goal

abbrev pub decreases-exchange_beside : goal.decreases-exchange_beside
decreases-exchange_beside g l = 4 * length l.lanes.now

abbrev pub decreases-exchange_beside_both : goal.decreases-exchange_beside_both
decreases-exchange_beside_both g l = 4 * (length l.first.now + length l.others.now) - 1

abbrev pub decreases-exchange_beside_both-back : goal.decreases-exchange_beside_both-back
decreases-exchange_beside_both-back g l = 4 * length l.others.now + 1
