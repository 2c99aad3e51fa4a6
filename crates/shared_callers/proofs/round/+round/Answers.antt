-- The first caller answered beside the others, and some of them have lines.
use Rattle.std.proofs.Common.{rules}
use Rattle.shared_callers.proofs.AnsweredBoth.{answered-both}
use Rattle.shared_callers.proofs.Lists.{some-of-any}
use Rattle.shared_callers.specs.OneLane.{waits}
use Rattle.shared_callers.proofs.round.+round.Goals as goal

pub exchange_beside-returns-then-waits-clause-lanes : goal.exchange_beside-returns-then-waits-clause-lanes
exchange_beside-returns-then-waits-clause-lanes g t c =
    let cut = c.split_at_mut-first in
    answered-both c.args.host.now c.args.lanes.now cut.result.0.now c.exchange_beside_both.new.first cut.result.1.now
    c.exchange_beside_both.new.others cut.ensures.value c.exchange_beside_both.ensures.lanes.0 c.exchange_beside_both.ensures.lanes.1

pub exchange_beside-exchange_beside-requires-clause-free : goal.exchange_beside-exchange_beside-requires-clause-free
exchange_beside-exchange_beside-requires-clause-free g t c κs within =
    (search rules, some-of-any waits c.split_at_mut-first.result.1.now (search rules))
