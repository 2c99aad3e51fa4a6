-- Whether no value exceeds the greatest of a digit.
use Rattle.std.proofs.Common.{ℕ, ◌<◌, ◌≤◌, get_or}
use Rattle.chip_request.proofs.hex_digits.are_digit_values.Given as goal

-- no value so far exceeds the greatest
abbrev pub invariant-loop-value : goal.invariant-loop-value
invariant-loop-value l = (place : ℕ) → place < l.value-index → get_or l.values place 0 ≤ l.greatest
