-- The list has as many cards as were taken.
use Rattle.std.proofs.Common.{◌≡◌, length}
use Rattle.sample_issuer.proofs.setup.issuer.Given as goal

abbrev pub invariant-loop-last : goal.invariant-loop-last
invariant-loop-last l = length l.infos.items ≡ l.last-index
