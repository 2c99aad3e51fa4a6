-- One index for each turn so far.
use Rattle.std.proofs.Common.{◌≡◌, length}
use Rattle.cipher_tests.proofs.response_cryptograms.responses_made_ahead_are_those_of_another_program.Given as goal

abbrev pub invariant-loop-index : goal.invariant-loop-index
invariant-loop-index g l = record { count : length l.batch.answers ≡ l.index }
