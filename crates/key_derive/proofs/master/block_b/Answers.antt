-- A short account number uses option A; a long one is hashed without the zeros before it.
use Rattle.std.proofs.Common.{◌≡◌, ◌<◌, ◌≤◌, ◌+◌, ◌-◌, ◌/◌, length, drop, sym, ap, ◌∙◌, arith, rules}
use Rattle.std.proofs.lemmas.List.{take_all, length-drop}
use Rattle.sha1.specs.Sha1.{sha1}
use Rattle.issuer_base.proofs.CardNumberLemmas.{length-pan}
use Rattle.key_derive.specs.Digits.{decimal16}
use Rattle.key_derive.specs.MasterKey.{diversified}
use Rattle.key_derive.proofs.Packing.{drop-row-used}
use Rattle.key_derive.proofs.Options.{option_b-short, option_b-long}
use Rattle.key_derive.proofs.master.block_b.Goals as goal

pub returns-then-len-le-LONGEST_UNHASHED-clause-exact : goal.returns-then-len-le-LONGEST_UNHASHED-clause-exact
returns-then-len-le-LONGEST_UNHASHED-clause-exact c imk =
    let short : length c.args.pan.now ≤ 16 = rw (sym c.digits-len.ensures.same) c.if-len-le-LONGEST_UNHASHED.true in
    option_b-short imk c.args.pan.now c.args.psn short ∙ c.block_a.ensures imk

pub overflow_sub-unused : goal.overflow_sub-unused
overflow_sub-unused c =
    let within = length-pan c.args.pan.now c.digits-len.ensures.valid in
    rw c.digits-len.ensures.same (omega (arith, within.1))

pub returns-clause-exact : goal.returns-clause-exact
returns-clause-exact c imk =
    let pan = c.args.pan.now in
    let long : 16 < length pan = rw (sym c.digits-len.ensures.same) c.if-len-le-LONGEST_UNHASHED.false in
    let row : length c.written.result ≡ 11 = search rules in
    let unused : 11 - (length c.digits-len.result.now + 3) / 2 ≡ 11 - (length pan + 3) / 2 = ap (λ ds. 11 - (length ds + 3) / 2) c.digits-len.ensures.same in
    option_b-long imk pan c.args.psn long
    ∙ sym (ap (diversified imk) (c.decimal16.ensures ∙ ap decimal16 (c.digest-digest.ensures ∙ ap sha1 (
    take_all (11 - (11 - (length c.digits-len.result.now + 3) / 2)) (drop (11 - (length c.digits-len.result.now + 3) / 2) c.written.result) (omega
    (arith, length-drop (11 - (length c.digits-len.result.now + 3) / 2) c.written.result))
    ∙ ap (drop (11 - (length c.digits-len.result.now + 3) / 2)) c.written.ensures.exact
    ∙ drop-row-used pan c.args.psn _ (omega (arith, c.written.ensures.within)) unused))))
