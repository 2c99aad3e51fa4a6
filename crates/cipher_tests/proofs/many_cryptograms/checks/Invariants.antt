-- There is a check for each place that was passed.
use Rattle.std.proofs.Common.{◌≡◌, length}
use Rattle.cipher_tests.proofs.many_cryptograms.checks.Given as goal

abbrev pub invariant-loop-place : goal.invariant-loop-place
invariant-loop-place l = length l.checks ≡ l.place
