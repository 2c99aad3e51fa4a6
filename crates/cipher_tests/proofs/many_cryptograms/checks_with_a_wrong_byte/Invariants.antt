-- There is a check for each place that was passed.
use Rattle.std.proofs.Common.{◌≡◌, length}
use Rattle.cipher_tests.proofs.many_cryptograms.checks_with_a_wrong_byte.Given as goal

abbrev pub invariant-loop-place : goal.invariant-loop-place
invariant-loop-place l = length l.checks ≡ l.place
