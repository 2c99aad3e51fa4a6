-- What was pushed so far is that of the answers so far.
use Rattle.std.proofs.Common.{◌≡◌, ◌++◌, map, take, drop}
use Rattle.arrayvec.specs.ArrayVec.{array_vec_len}
use Rattle.arpc_methods.proofs.ahead.left_halves.Given as goal

abbrev pub invariant-loop-parts : goal.invariant-loop-parts
invariant-loop-parts l = record {
  so_far : l.halves.items ++ map (λ parts. take 8 parts.key.0) (drop l.parts-index l.answers) ≡ map (λ parts. take 8 parts.key.0) l.answers;
  len : array_vec_len l.halves ≡ l.parts-index;
}
