-- The invariant of the loop over pairs of digits.
use Rattle.std.proofs.Common.{◌≡◌, ◌*◌, take, drop}
use Rattle.journal_rec.specs.Reading.{spelled}
use Rattle.journal_rec.proofs.Spelling.{behind}
use Rattle.journal_rec.proofs.digits.decode_short.Given as goal

-- the bytes so far and those that the other digits spell
abbrev pub invariant-bytes : goal.invariant-bytes
invariant-bytes l = behind (take l.i l.out) (spelled (drop (2 * l.i) l.digits)) ≡ spelled l.digits
