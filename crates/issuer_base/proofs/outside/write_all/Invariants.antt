-- How much of a piece was written so far.
use Rattle.std.proofs.Common.{◌≡◌, ◌-◌, ◌≤◌, length, take}
use Rattle.std.specs.Io.KnownBytes.{Appends}
use Rattle.issuer_base.proofs.outside.write_all.Given as goal

abbrev pub invariant-loop-written : goal.invariant-loop-written
invariant-loop-written g l =
    (l.written ≤ length l.piece)
    × Appends (g.W.Sink.held l.initial.out) (g.W.Sink.held l.out) (take l.written l.piece)
    × (g.W.Sink.faults l.out ≡ g.W.Sink.faults l.initial.out)

abbrev pub decreases-loop-written : goal.decreases-loop-written
decreases-loop-written g l = length l.piece - l.written
