-- The account number of checked digits.
use Rattle.std.proofs.Common.{sym, ◌∙◌}
use Rattle.issuer_base.proofs.CardNumberLemmas.{filled-pan}
use Rattle.issuer_base.proofs.pan.Pan.new.Goals as goal

pub invariant_of-result : goal.invariant_of-result
invariant_of-result c =
    filled-pan c.args.digits.now c.copy_from_slice.new.self c.copy_from_slice.ensures.after
    (sym c.is_account_number.ensures.exact ∙ c.if-not-is_account_number.false)
