-- Whether all are digits.
use Rattle.std.proofs.Common.{◌≡◌, take, nat_le}
use Rattle.std.specs.List.{list_all}
use Rattle.issuer_base.proofs.pan.are_digits.Given as goal

-- those so far
abbrev pub invariant-loop-digit : goal.invariant-loop-digit
invariant-loop-digit l = l.are_small ≡ list_all (λ digit. nat_le digit 9) (take l.digit-index l.digits)
