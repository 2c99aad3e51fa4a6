-- An order at hand is for a card that the issuer has.
use Rattle.issuer_setup.specs.IssuerSetup.{Setup}
use Rattle.line_checks.specs.declared.checked.CheckedOrder.{CheckedOrder}
use Rattle.line_checks.specs.declared.checked.CheckedOrder.TheVariants.{Command, Status}
use Rattle.line_checks.specs.AtHand.{IsCardAtHand, IsOrderAtHand, card_of_order, number_of_order}

pub order-card : (issuer : Setup) (order : CheckedOrder) → IsOrderAtHand issuer order
    → IsCardAtHand issuer (card_of_order order) (number_of_order order)
order-card issuer (Command found) at_hand = at_hand.card_is
order-card issuer (Status found) at_hand = at_hand.card_is
