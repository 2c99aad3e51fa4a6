-- The invariant of the loop over digits.
use Rattle.std.proofs.Common.{◌≡◌, ◌-◌, length, map, take}
use Rattle.journal_rec.specs.declared.limits.TheConstants.{PAN_DIGITS}
use Rattle.journal_rec.proofs.pan.values.Given as goal

-- the values of the digits so far
abbrev pub invariant-digits : goal.invariant-digits
invariant-digits l = record {
  values : take l.i l.values ≡ map (λ digit. digit - 48) (take l.i l.text);
  size : length l.values ≡ PAN_DIGITS;
}
