-- The pairs so far and the remaining ones are those of before.
use Rattle.std.proofs.Common.{◌≡◌, ◌-◌, length}
use Rattle.issuer_setup.proofs.kept_keys.keep_set.Given as goal

abbrev pub invariant-loop-at : goal.invariant-loop-at
invariant-loop-at l = l.pairs ≡ l.initial.pairs

abbrev pub decreases-loop-at : goal.decreases-loop-at
decreases-loop-at l = length l.initial.pairs - l.at
