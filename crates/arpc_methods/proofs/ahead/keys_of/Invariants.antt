-- The keys so far are those of the answers so far.
use Rattle.std.proofs.Common.{◌≡◌, map, take, length}
use Rattle.arpc_methods.proofs.ahead.keys_of.Given as goal

abbrev pub invariant-loop-i : goal.invariant-loop-i
invariant-loop-i l = record {
  so_far : take l.i l.keys ≡ map (λ parts. parts.key) (take l.i l.answers);
  len : length l.keys ≡ 128;
}
