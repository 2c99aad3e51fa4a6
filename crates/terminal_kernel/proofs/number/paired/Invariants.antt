-- The bytes so far, and those of the digits that are left.
use Rattle.std.proofs.Common.{◌≡◌, ◌*◌, ◌++◌, length, drop}
use Rattle.terminal_kernel.specs.Requested.{number_bytes}
use Rattle.terminal_kernel.proofs.number.paired.Given as goal

abbrev pub invariant-pairs : goal.invariant-pairs
invariant-pairs l =
    (l.bytes.items ++ number_bytes (drop (2 * l.i) l.digits) ≡ number_bytes l.digits) × (length l.bytes.items ≡ l.i)
