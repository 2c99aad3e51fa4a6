-- The bytes from here on have the required bits exactly if all the bytes have them.
use Rattle.std.proofs.Common.{◌≡◌, drop}
use Rattle.decision_table.specs.Fitting.{has_bits}
use Rattle.decision_table.proofs.row.has_bits.Given as goal

abbrev pub invariant-loop-index : goal.invariant-loop-index
invariant-loop-index l = has_bits (drop l.index l.mask) (drop l.index l.value) (drop l.index l.bytes) ≡ has_bits l.mask l.value l.bytes
