-- With few requests nothing changes.
use Rattle.line_checks.proofs.Again.{again-all}
use Rattle.line_checks.proofs.in_lanes.check_in_lanes.Goals as goal

pub returns-else-count_in_lanes-ge-FEWEST_IN_LANES : goal.returns-else-count_in_lanes-ge-FEWEST_IN_LANES
returns-else-count_in_lanes-ge-FEWEST_IN_LANES c = again-all c.args.issuer.now c.args.found.now c.requires.ready
