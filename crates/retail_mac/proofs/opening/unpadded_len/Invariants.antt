-- The bytes at the end so far are zeros.
use Rattle.std.proofs.Common.{◌≡◌, ℕ, ◌+◌, ◌≤◌, length, get_or}
use Rattle.retail_mac.proofs.opening.unpadded_len.Given as goal

abbrev pub invariant-loop-zeros : goal.invariant-loop-zeros
invariant-loop-zeros l = (k : ℕ) → length l.plain ≤ k + l.zeros → get_or l.plain k 0 ≡ 0
