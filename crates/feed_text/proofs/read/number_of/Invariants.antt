-- The bytes so far are digits, and say the number.
use Rattle.std.proofs.Common.{take}
use Rattle.feed_text.proofs.Digits.{Says}
use Rattle.feed_text.proofs.read.number_of.Given as goal

abbrev pub invariant-loop-byte : goal.invariant-loop-byte
invariant-loop-byte l = Says (take l.byte-index l.word) l.number
