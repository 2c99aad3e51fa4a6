-- Forty nibbles have digits and letters enough, so sixteen are collected, and packed two in a byte.
use Rattle.std.proofs.Common.{◌≡◌, ◌≤◌, ◌++◌, filter, take, length, ap, ◌∙◌, arith, rules}
use Rattle.key_derive.specs.Digits.{decimal16, packed, is_digit, letters}
use Rattle.key_derive.proofs.Taking.{taken-all, length-digits-letters}
use Rattle.key_derive.proofs.digits.decimal16.Goals as goal

pub returns : goal.returns
unfolding decimal16
returns c =
    let nibbles = c.nibbles_of.result in
    let long : length c.taken.inside.digits ≡ 16 = search rules in
    let enough : 16 ≤ length (filter is_digit nibbles ++ letters nibbles) = omega (arith, length-digits-letters nibbles) in
    let taken = taken-all c.taken.inside.digits (filter is_digit nibbles ++ letters nibbles) c.taken.inside.count long c.taken.invariant.0 enough
    (c.taken.view_is ∙ c.sixteen_of-taken.ensures) in
    c.packed.ensures ∙ ap packed (taken ∙ ap (λ ns. take 16 (filter is_digit ns ++ letters ns)) c.nibbles_of.ensures.exact)
