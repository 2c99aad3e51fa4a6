-- What an order asks, by its record.
use Rattle.std.proofs.Common.{◌≡◌, ℕ, List, refl}
use Rattle.issuer_base.specs.declared.answer.Answer.{Answer}
use Rattle.issuer_base.specs.declared.entry.Entry.{Entry}
use Rattle.issuer_setup.specs.IssuerSetup.{Setup}
use Rattle.line_checks.specs.declared.checked.CheckedOrder.{CheckedOrder}
use Rattle.line_checks.specs.declared.checked.CheckedOrder.TheVariants.{Command, Status}
use Rattle.line_checks.specs.AtHand.{IsOrderAtHand, IsCardAtHand, number_of_order, order_asked, record_of}
use Rattle.line_checks.proofs.Orders.{order-card}
use Rattle.shard_book.specs.Answering.{AnswersOrder}
use Rattle.shard_book.specs.Room.{most_of}
use Rattle.one_caller.specs.OwnTails.{record_asked}
use Rattle.one_caller.specs.Room.{most_asked}
use Rattle.one_caller.specs.Turns.{card_asked, AnswersAsked}

-- the card that is asked of is that of the order
pub order-asked_card : (issuer : Setup) (order : CheckedOrder) → IsOrderAtHand issuer order
    → IsCardAtHand issuer (card_asked (order_asked order)) (number_of_order order)
order-asked_card issuer (Command found) at_hand = order-card issuer (Command found) at_hand
order-asked_card issuer (Status found) at_hand = order-card issuer (Status found) at_hand

-- what the shard may answer is what may be answered
pub order-answers : (issuer : Setup) (order : CheckedOrder) (answer : Answer) (shard : ℕ) (before after : List Entry)
    → AnswersOrder shard before (order_asked order) answer after → AnswersAsked issuer (order_asked order) answer shard before after
order-answers issuer (Command found) answer shard before after answers = answers
order-answers issuer (Status found) answer shard before after answers = answers

-- and so is the room for its record
pub order-most : (order : CheckedOrder) → most_of (record_of order) ≡ most_asked (order_asked order)
order-most (Command found) = refl
order-most (Status found) = refl

-- and the record that it asks for
pub order-record : (issuer : Setup) (history : List Entry) (order : CheckedOrder) → record_of order ≡ record_asked issuer history (order_asked order)
order-record issuer history (Command found) = refl
order-record issuer history (Status found) = refl
