-- The piece was fed up to what is left of it, without a fault.
use Rattle.std.proofs.Common.{length}
use Rattle.standby_node.proofs.Fed.{HasFed}
use Rattle.standby_node.proofs.standby.Standby.take_piece.Given as goal

abbrev pub invariant-lines : goal.invariant-lines
invariant-lines g l = HasFed l.issuer l.fn.self l.self l.fn.piece l.left

abbrev pub decreases-lines : goal.decreases-lines
decreases-lines g l = length l.left
