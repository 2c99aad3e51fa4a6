-- What the pairs from the last one on give the option.
use Rattle.std.proofs.Common.{◌≡◌, ◌+◌, ◌*◌, ◌≤◌, length, drop}
use Rattle.std.specs.Prelude.{slice_get}
use Rattle.std.specs.Option.{option_map}
use Rattle.command_line.specs.Command.{values_of}
use Rattle.command_line.specs.Pairs.{pairs_of}
use Rattle.command_line.proofs.words.given_for.Given as goal

abbrev pub invariant-loop-left : goal.invariant-loop-left
invariant-loop-left l = record {
  first : option_map (λ value. value.now) l.first
      ≡ slice_get (values_of l.option (pairs_of (drop (2 * l.left + 1) l.words))) 0;
  count : l.times ≡ length (values_of l.option (pairs_of (drop (2 * l.left + 1) l.words)));
  few : l.times + l.left ≤ length l.words;
  within : 2 * l.left + 1 ≤ length l.words;
}

abbrev pub decreases-loop-left : goal.decreases-loop-left
decreases-loop-left l = l.left
