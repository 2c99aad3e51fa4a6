-- The bytes so far stand before those of the entries that are left.
use Rattle.std.proofs.Common.{◌≡◌, ◌+◌, ◌++◌, drop, length}
use Rattle.terminal_kernel.specs.Dol.{total_length}
use Rattle.terminal_kernel.specs.Filling.{filled}
use Rattle.terminal_kernel.proofs.filling.fill.Given as goal

abbrev pub invariant-loop-entry : goal.invariant-loop-entry
invariant-loop-entry l = record {
  bytes : l.out.items ++ filled l.given (drop l.entry-index l.dol) ≡ filled l.given l.dol;
  size : length l.out.items + total_length (drop l.entry-index l.dol) ≡ total_length l.dol;
}
