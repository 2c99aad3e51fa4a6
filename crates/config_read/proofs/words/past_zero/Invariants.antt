-- The characters so far are converted, and the others are unchanged.
use Rattle.std.proofs.Common.{◌≡◌, ◌++◌, map, take, drop}
use Rattle.config_read.specs.Words.{past_zero}
use Rattle.config_read.proofs.words.past_zero.Given as goal

abbrev pub invariant-loop-character : goal.invariant-loop-character
invariant-loop-character l =
    l.character-items ≡ map past_zero (take l.character-index l.initial.character-items) ++ drop l.character-index l.initial.character-items
