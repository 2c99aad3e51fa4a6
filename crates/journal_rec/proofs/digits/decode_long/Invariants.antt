-- The invariant of the loop over pairs of digits.
use Rattle.std.proofs.Common.{◌≡◌, ◌*◌, take, drop, cond, None}
use Rattle.journal_rec.specs.Reading.{spelled}
use Rattle.journal_rec.proofs.Spelling.{behind}
use Rattle.journal_rec.proofs.digits.decode_long.Given as goal

-- the bytes so far and those that the other digits spell, if all so far are digits
abbrev pub invariant-bytes : goal.invariant-bytes
invariant-bytes l = cond l.are_digits (behind (take l.i l.out) (spelled (drop (2 * l.i) l.digits))) None ≡ spelled l.digits
