-- The commands so far fit, and `room` is the remaining room.
use Rattle.std.proofs.Common.{drop}
use Rattle.script_queue.proofs.FittingFronts.{FitsSoFar}
use Rattle.script_queue.proofs.queue.Queue.fitting_after.Given as goal

abbrev pub invariant-loop-index : goal.invariant-loop-index
invariant-loop-index l = FitsSoFar (drop l.skip l.self.undone) (drop l.index l.self.undone) l.count l.room
