-- The digits of a card's number are an account number.
use Rattle.std.proofs.Common.{◌∙◌, refl, sym, subst, rules}
use Rattle.std.specs.Option.{IsSome}
use Rattle.std.proofs.lemmas.Option.{same_Some}
use Rattle.world_play.proofs.Numbers.{digits_pan, info_is}
use Rattle.world_play.proofs.setting.card_info.Goals as goal

pub unwrap-requires : goal.unwrap-requires
unwrap-requires c =
    subst (λ found. IsSome found) (sym (c.new.ensures ∙ digits_pan c.args.number c.six_digits.result c.six_digits.ensures)) refl

pub returns : goal.returns
returns c =
    info_is c.args.number c.unwrap.result c.if-number-eq0.method
    (same_Some _ _ (sym c.unwrap.ensures ∙ c.new.ensures ∙ digits_pan c.args.number c.six_digits.result c.six_digits.ensures))
    (search rules)
