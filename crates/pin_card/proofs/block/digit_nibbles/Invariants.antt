-- Each nibble so far is the block's, two further on.
use Rattle.std.proofs.Common.{◌≡◌, ℕ, ◌+◌, ◌<◌, length, get_or}
use Rattle.secure_msg.specs.Pins.{nibble_at}
use Rattle.pin_card.proofs.block.digit_nibbles.Given as goal

abbrev pub invariant-loop-i : goal.invariant-loop-i
invariant-loop-i l = record {
  length_kept : length l.nibble-items ≡ 14;
  so_far : (k : ℕ) → k < l.i → get_or l.nibble-items k 0 ≡ nibble_at l.block (k + 2);
}
