-- What was pushed so far is that of the answers so far.
use Rattle.std.proofs.Common.{◌≡◌, ◌++◌, map, drop}
use Rattle.arrayvec.specs.ArrayVec.{array_vec_len}
use Rattle.arpc_methods.proofs.ahead.cryptograms.Given as goal

abbrev pub invariant-loop-parts : goal.invariant-loop-parts
invariant-loop-parts l = record {
  so_far : l.cryptograms.items ++ map (λ parts. parts.ac) (drop l.parts-index l.answers) ≡ map (λ parts. parts.ac) l.answers;
  len : array_vec_len l.cryptograms ≡ l.parts-index;
}
