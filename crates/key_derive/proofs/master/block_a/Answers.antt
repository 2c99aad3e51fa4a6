-- The last eight bytes of the packed card number are the sixteen digits of option A.
use Rattle.std.proofs.Common.{◌≡◌, length, drop, sym, ap, ◌∙◌, arith, rules}
use Rattle.std.proofs.lemmas.List.{take_all, length-drop}
use Rattle.key_derive.specs.MasterKey.{diversified, option_a}
use Rattle.key_derive.proofs.Packing.{drop-row-3}
use Rattle.key_derive.proofs.master.block_a.Goals as goal

pub returns : goal.returns
unfolding option_a
returns c imk =
    let long : length c.written.result ≡ 11 = search rules in
    sym (ap (diversified imk) (c.copy_from_slice.ensures.after
    ∙ take_all 8 (drop 3 c.written.result) (omega (arith, length-drop 3 c.written.result))
    ∙ ap (drop 3) c.written.ensures.exact ∙ drop-row-3 c.args.pan.now c.args.psn (omega (arith, c.written.ensures.within))))
