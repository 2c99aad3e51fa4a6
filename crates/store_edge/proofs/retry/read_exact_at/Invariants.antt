-- How much of the buffer was filled so far.
use Rattle.std.proofs.Common.{length, ◌-◌, ◌≡◌, ◌≤◌}
use Rattle.store_edge.proofs.retry.read_exact_at.Given as goal

abbrev pub invariant-loop-given : goal.invariant-loop-given
invariant-loop-given l = (l.given ≤ length l.into) × (length l.into ≡ length l.initial.into)

abbrev pub decreases-loop-given : goal.decreases-loop-given
decreases-loop-given l = length l.initial.into - l.given
