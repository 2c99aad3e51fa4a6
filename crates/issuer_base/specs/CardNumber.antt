-- The primary account number of a card, as the list of its decimal digits: EMV 4.3 Book 3 Annex A, tag 5A.
use Rattle.std.specs.Prelude.{ℕ, ◌-◌, Bool, ◌&&◌, nat_le, if◌then◌else◌, List, ◌++◌, length, replicate, Option, Some, None}
use Rattle.std.specs.List.{list_all}
use Rattle.issuer_base.specs.declared.limits.TheConstants.{MIN_PAN_DIGITS, MAX_PAN_DIGITS}

-- a primary account number has 8 to 19 decimal digits; that there are at least 8 is this project's profile
unfoldable pub is_pan : List ℕ → Bool
is_pan digits =
    nat_le MIN_PAN_DIGITS (length digits) && nat_le (length digits) MAX_PAN_DIGITS
    && list_all (λ digit. nat_le digit 9) digits

-- these digits, if they are an account number, or none
unfoldable pub pan_from : List ℕ → Option (List ℕ)
pan_from digits = if is_pan digits then Some digits else None

-- these digits and zeros after them, 19 in all
unfoldable pub filled_up : List ℕ → List ℕ
filled_up digits = digits ++ replicate (MAX_PAN_DIGITS - length digits) 0
