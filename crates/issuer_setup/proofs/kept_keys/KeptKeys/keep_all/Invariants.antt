-- The keys are the same as before.
use Rattle.std.proofs.Common.{◌≡◌}
use Rattle.issuer_setup.proofs.kept_keys.KeptKeys.keep_all.Given as goal

abbrev pub invariant-loop-place : goal.invariant-loop-place
invariant-loop-place l = record {
  sets : l.self-inside.sets ≡ l.fn.self.sets;
  pairs : l.self-inside.pairs.items ≡ l.fn.self.pairs;
}
