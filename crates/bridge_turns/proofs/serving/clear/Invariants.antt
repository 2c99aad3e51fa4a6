-- The first numbers are 0.
use Rattle.std.proofs.Common.{◌≡◌, take, replicate}
use Rattle.bridge_turns.proofs.serving.clear.Given as goal

abbrev pub invariant-loop-number : goal.invariant-loop-number
invariant-loop-number l = take l.number-index l.numbers ≡ replicate l.number-index 0
