-- An answer runs no command.
use Rattle.std.proofs.Common.{List, sym, subst}
use Rattle.issuer_base.specs.declared.command.Command.{Command}
use Rattle.pin_card.specs.LastPin.{IsLastPin}
use Rattle.card_model.proofs.Ran.{answer-ran}
use Rattle.pin_card.proofs.pin_card.PinCard.authenticate.Goals as goal

pub invariant_of-self : goal.invariant_of-self
invariant_of-self c =
    subst (λ (ran : List Command). IsLastPin c.self.inside.smc.0 ran c.self.inside.pin)
    (sym (answer-ran c.self.inside.card c.authenticate.new.self c.args.value91.now c.args.arc c.authenticate.result c.authenticate.ensures.step))
    c.self.invariant
