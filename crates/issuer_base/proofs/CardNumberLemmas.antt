-- What the definition of an account number states of its digits.
use Rattle.std.proofs.Common.{◌≡◌, ℕ, ◌<◌, ◌≤◌, List, ◌++◌, length, take, drop, replicate, get_or, Some, IsTrue, refl}
use Rattle.std.proofs.Math.Seq.{take-append_seam}
use Rattle.std.proofs.lemmas.Bool.{and_parts, cond-true, leb-true}
use Rattle.std.proofs.lemmas.List.{drop-replicate}
use Rattle.std.proofs.lemmas.Option.{cond_some}
use Rattle.issuer_base.specs.CardNumber.{is_pan, pan_from, filled_up}
use Rattle.issuer_base.proofs.Decimal.{list_all-at}

-- the account number that digits are is these digits
pub pan_from-some : (digits pan : List ℕ) → pan_from digits ≡ Some pan → IsTrue (is_pan digits) × (digits ≡ pan)
unfolding pan_from
pan_from-some digits pan made = cond_some _ _ _ made

-- the digits of an account number are one
pub pan_from-valid : (digits : List ℕ) → IsTrue (is_pan digits) → pan_from digits ≡ Some digits
unfolding pan_from
pan_from-valid digits valid = cond-true _ _ _ valid

-- an account number has 8 to 19 digits
pub length-pan : (digits : List ℕ) → IsTrue (is_pan digits) → (8 ≤ length digits) × (length digits ≤ 19)
unfolding is_pan
length-pan digits valid =
    let sized = (and_parts _ _ valid).0 in
    (leb-true _ _ (and_parts _ _ sized).0, leb-true _ _ (and_parts _ _ sized).1)

-- each digit of an account number is at most 9
pub digit-pan : (digits : List ℕ) → IsTrue (is_pan digits) → (i : ℕ) → i < length digits → get_or digits i 0 ≤ 9
unfolding is_pan
digit-pan digits valid i below = leb-true _ _ (list_all-at _ digits (and_parts _ _ valid).1 i below)

-- the digits of an account number, copied to the start of 19 zeros
pub filled-pan : (digits copied : List ℕ) → copied ≡ digits → IsTrue (is_pan digits)
    → let filled = copied ++ drop (length digits) (replicate 19 0) in
    IsTrue (is_pan (take (length digits) filled)) × (length (take (length digits) filled) ≡ length digits)
    × (filled_up (take (length digits) filled) ≡ filled)
unfolding filled_up
filled-pan digits copied same valid =
    rw (same, drop-replicate {X = ℕ} (length digits) 19 0, take-append_seam digits _) (valid, refl, refl)
