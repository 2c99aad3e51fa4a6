-- The pairs from the last one on.
use Rattle.std.proofs.Common.{◌≡◌, ◌+◌, ◌*◌, ◌≤◌, length, drop}
use Rattle.command_line.specs.Pairs.{are_pairs, options_of, pairs_of}
use Rattle.command_line.proofs.words.are_pairs.Given as goal

abbrev pub invariant-loop-left : goal.invariant-loop-left
invariant-loop-left l = record {
  all_are : l.all ≡ are_pairs (options_of l.command) (pairs_of (drop (2 * l.left + 1) l.words));
  within : 2 * l.left + 1 ≤ length l.words;
}

abbrev pub decreases-loop-left : goal.decreases-loop-left
decreases-loop-left l = l.left
