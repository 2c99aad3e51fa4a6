-- How much of a piece was written so far.
use Rattle.std.proofs.Common.{◌≡◌, ◌+◌, ◌-◌, ◌≤◌, length}
use Rattle.store_edge.proofs.file_store.write_behind.Given as goal

abbrev pub invariant-loop-written : goal.invariant-loop-written
invariant-loop-written l = (l.written ≤ length l.piece) × (l.len ≡ l.initial.len + l.written)

abbrev pub decreases-loop-written : goal.decreases-loop-written
decreases-loop-written l = length l.piece - l.written
