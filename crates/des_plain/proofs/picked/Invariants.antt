-- The number so far is that of the bits that the table's entries so far pick.
use Rattle.std.proofs.Common.{◌≡◌, take}
use Rattle.des_block.specs.Bits.{bits, number, picked}
use Rattle.des_plain.proofs.picked.Given as goal

abbrev pub invariant-loop-entry : goal.invariant-loop-entry
invariant-loop-entry l = l.out ≡ number (picked (take l.entry-index l.table) (bits l.width l.word))
