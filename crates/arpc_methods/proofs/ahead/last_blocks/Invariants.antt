-- What was pushed so far is that of the answers so far.
use Rattle.std.proofs.Common.{◌≡◌, ◌++◌, map, drop}
use Rattle.arrayvec.specs.ArrayVec.{array_vec_len}
use Rattle.arpc_methods.specs.Ahead.{last_block}
use Rattle.arpc_methods.proofs.ahead.last_blocks.Given as goal

abbrev pub invariant-loop-i : goal.invariant-loop-i
invariant-loop-i l = record {
  so_far : l.blocks.items ++ map last_block (drop l.i l.answers) ≡ map last_block l.answers;
  len : array_vec_len l.blocks ≡ l.i;
}
