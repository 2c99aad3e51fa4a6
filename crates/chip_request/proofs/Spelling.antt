-- Bytes that digits spell, in steps that may overlap.
use Rattle.std.proofs.Common.{◌≡◌, ℕ, zero, suc, ◌+◌, ◌-◌, ◌*◌, ◌<◌, ◌≤◌, List, length, take, drop, get_or}
use Rattle.std.proofs.Common.{Some, sym, ap, subst, ◌∙◌, inl, inr, arith}
use Rattle.std.proofs.lemmas.Bool.{cases_lt}
use Rattle.std.proofs.lemmas.List.{get_or-take, get_or-drop, get_or_append_left, get_or-append_right, length-take-le, set-get_or}
use Rattle.std.proofs.lemmas.Slice.{take-put_mid}
use borrow.Rule.Slice.PartMut.{put_mid}
use Rattle.chip_request.specs.HexDigits.{AreSpelled}
use Rattle.chip_request.proofs.PairLoop.{HasFront, no_front, front_goes_on}

-- the bytes before a step stay
pub spelled-kept : (from step : ℕ) (bytes spelled text : List ℕ) → from ≤ length bytes → length spelled ≡ step
    → AreSpelled from bytes text → AreSpelled from (put_mid from step bytes spelled) text
spelled-kept from step bytes spelled text within size are place below =
    let all = take-put_mid from step bytes spelled (from + step) (ap (λ n. from + n) (sym size)) within in
    let same : get_or (put_mid from step bytes spelled) place 0 ≡ get_or bytes place 0 =
    sym (get_or-take (from + step) (put_mid from step bytes spelled) place 0 (omega (arith, below))) ∙ ap (λ xs. get_or xs place 0) all
    ∙ get_or_append_left (take from bytes) spelled 0 place (rw (length-take-le from bytes within) below)
    ∙ get_or-take from bytes place 0 below in
    are place below ∙ ap Some (sym same)

-- the bytes of one more step
pub spelled-step : (from step : ℕ) (bytes spelled text : List ℕ) → from ≤ length bytes → length spelled ≡ step
    → AreSpelled step spelled (drop (2 * from) text) → AreSpelled from bytes text → AreSpelled (from + step) (put_mid from step bytes spelled) text
spelled-step from step bytes spelled text within size next are place below =
    elim (cases_lt place from) [
      | inl before ↦ spelled-kept from step bytes spelled text within size are place before
      | inr behind ↦
          let all = take-put_mid from step bytes spelled (from + step) (ap (λ n. from + n) (sym size)) within in
          let high : 2 * from + 2 * (place - from) ≡ 2 * place = omega (arith, behind) in
          let low : 2 * from + (2 * (place - from) + 1) ≡ 2 * place + 1 = omega (arith, behind) in
          let same : get_or (put_mid from step bytes spelled) place 0 ≡ get_or spelled (place - from) 0 =
          sym (get_or-take (from + step) (put_mid from step bytes spelled) place 0 below) ∙ ap (λ xs. get_or xs place 0) all
          ∙ get_or-append_right (take from bytes) spelled from place 0 (length-take-le from bytes within) behind in
          rw (get_or-drop (2 * from) text (2 * (place - from)) 0, get_or-drop (2 * from) text (2 * (place - from) + 1) 0, high, low)
          at (next (place - from) (omega (arith, below, behind)))
          ∙ ap Some (sym same)
    ]

-- the bytes that the first pairs of a text spell, of which there is more or nothing
pub spelled-front : (limit pairs count : ℕ) (bytes text : List ℕ) → count ≤ pairs → pairs ≤ limit → pairs ≤ length bytes → 2 * pairs ≤ length text
    → 0 < length text → AreSpelled pairs bytes text → HasFront limit count bytes text
spelled-front limit pairs zero bytes text within room here long some are = no_front limit bytes text some
spelled-front limit pairs (suc count) bytes text within room here long some are =
    let value : ℕ = get_or bytes count 0 in
    let one : count + 1 ≡ suc count = omega arith in
    subst (λ n. HasFront limit n bytes text) one
    (subst (λ (bytes : List ℕ). HasFront limit (count + 1) bytes text) (set-get_or bytes count 0)
    (front_goes_on limit count value bytes text (omega (arith, within, room)) (omega (arith, within, here)) (omega (arith, within, long))
    (are count (omega (arith, within)))
    (spelled-front limit pairs count bytes text (omega (arith, within)) room here long some are)))
