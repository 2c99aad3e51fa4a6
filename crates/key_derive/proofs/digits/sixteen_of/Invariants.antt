-- Collected are the first sixteen of the digits so far, and then of all digits and the letters so far.
use Rattle.std.proofs.Common.{◌≡◌, ◌++◌, take, filter}
use Rattle.key_derive.specs.Digits.{is_digit, letters}
use Rattle.key_derive.proofs.digits.sixteen_of.Given as goal

abbrev pub invariant-digits : goal.invariant-digits
invariant-digits l = l.taken ≡ take 16 (filter is_digit (take l.nibble-index l.nibbles))

abbrev pub invariant-letters : goal.invariant-letters
invariant-letters l = l.taken ≡ take 16 (filter is_digit l.nibbles ++ letters (take l.nibble-index l.nibbles))
