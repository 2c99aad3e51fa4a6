-- The last command is read.
use Rattle.std.proofs.Common.{◌≡◌, Some, ◌∙◌, subst, ◌↔◌}
use Rattle.std.proofs.lemmas.Option.{same_Some}
use Rattle.issuer_base.specs.declared.command.Command.{Command}
use Rattle.secure_msg.specs.PinChange.{SetsPin}
use Rattle.card_model.proofs.Ran.{last-pushed}
use Rattle.pin_card.proofs.pin_card.last_set.Goals as goal

pub returns : goal.returns
returns c = λ earlier command pin ran_is.
    let same : c.in_ok-last.field-0.now ≡ command =
    same_Some _ _ (c.in_ok-last.ensures.value ∙ last-pushed c.args.ran.now earlier command ran_is) in
    subst (λ (last : Command). (c.read_pin.result ≡ Some pin) ↔ SetsPin c.args.smc.now.0 last pin) same (c.read_pin.ensures pin)
