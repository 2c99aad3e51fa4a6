-- The values of the digits so far.
use Rattle.std.proofs.Common.{◌≡◌, map, take, length}
use Rattle.std.specs.Char.{digit_value}
use Rattle.command_line.proofs.pin_words.digits_of.Given as goal

abbrev pub invariant-loop-character : goal.invariant-loop-character
invariant-loop-character g l =
    (l.digits.items ≡ map digit_value (take l.character-index l.word)) × (length l.digits.items ≡ l.character-index)
