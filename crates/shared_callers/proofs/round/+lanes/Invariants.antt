use Rattle.std.proofs.Common.{◌+◌, ◌-◌, ◌*◌, length}
use Rattle.shared_callers.proofs.round.+lanes.Given as goal

abbrev pub decreases-answer_at_once : goal.decreases-answer_at_once
decreases-answer_at_once g l = 4 * length l.lanes.now

abbrev pub decreases-answer_beside : goal.decreases-answer_beside
decreases-answer_beside g l = 4 * (length l.first.now + length l.others.now) - 1

abbrev pub decreases-answer_beside-back : goal.decreases-answer_beside-back
decreases-answer_beside-back g l = 4 * length l.others.now + 1

abbrev pub decreases-answer_beside-front : goal.decreases-answer_beside-front
decreases-answer_beside-front g l = 4 * length l.first.now + 1
