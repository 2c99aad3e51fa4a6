-- A tap runs no command.
use Rattle.std.proofs.Common.{List, sym, subst}
use Rattle.issuer_base.specs.declared.command.Command.{Command}
use Rattle.pin_card.specs.LastPin.{IsLastPin}
use Rattle.card_model.proofs.Ran.{tap-ran}
use Rattle.pin_card.proofs.pin_card.PinCard.tap.Goals as goal

pub invariant_of-self : goal.invariant_of-self
invariant_of-self c =
    subst (λ (ran : List Command). IsLastPin c.self.inside.smc.0 ran c.self.inside.pin)
    (sym (tap-ran c.self.inside.card c.tap.new.self c.args.terminal.now c.tap.result c.tap.ensures.step)) c.self.invariant
