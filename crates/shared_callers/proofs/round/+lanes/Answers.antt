-- The first caller answered beside the others, or before them.
use Rattle.shared_callers.proofs.AnsweredBoth.{answered-both}
use Rattle.shared_callers.proofs.round.+lanes.Goals as goal

pub answer_at_once-returns-then-any_waits : goal.answer_at_once-returns-then-any_waits
answer_at_once-returns-then-any_waits g t c =
    let cut = c.split_at_mut-first in
    answered-both c.args.host.now c.args.lanes.now cut.result.0.now c.answer_beside.new.first cut.result.1.now c.answer_beside.new.others
    cut.ensures.value c.answer_beside.ensures.first c.answer_beside.ensures.others
