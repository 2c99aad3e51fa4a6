-- There are as many checks as requests that were passed.
use Rattle.std.proofs.Common.{◌≡◌, length}
use Rattle.bench_runs.proofs.lanes.checks_in_lanes.Given as goal

abbrev pub invariant-loop-entry : goal.invariant-loop-entry
invariant-loop-entry l = length l.checks ≡ l.entry-index
