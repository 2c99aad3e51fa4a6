-- The bytes so far are digits, and say the number.
use Rattle.bridge_lines.proofs.Numerals.{Reads}
use Rattle.bridge_lines.proofs.words.number_in.Given as goal

abbrev pub invariant-loop-byte : goal.invariant-loop-byte
invariant-loop-byte l = Reads l.word l.byte-index l.number
