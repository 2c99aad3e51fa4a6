-- How much of a piece was written so far.
use Rattle.std.proofs.Common.{length, ◌-◌, ◌≤◌}
use Rattle.store_edge.proofs.retry.write_all_at.Given as goal

abbrev pub invariant-loop-written : goal.invariant-loop-written
invariant-loop-written l = l.written ≤ length l.piece

abbrev pub decreases-loop-written : goal.decreases-loop-written
decreases-loop-written l = length l.piece - l.written
