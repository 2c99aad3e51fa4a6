-- The objects so far and those ahead are those of the text.
use Rattle.tlv_objects.specs.Tlv.{objects_ahead}
use Rattle.terminal_kernel.proofs.DataWalk.{HasTaken}
use Rattle.terminal_kernel.proofs.given.read_data.Given as goal

abbrev pub invariant-loop-item : goal.invariant-loop-item
invariant-loop-item l = HasTaken l.fn.bytes l.given (objects_ahead l.item-iterator)
