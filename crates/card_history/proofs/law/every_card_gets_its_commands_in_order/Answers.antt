-- The law of a card's commands, over every history of a shard.
use Rattle.card_history.proofs.CommandsInOrder.{in_order}
use Rattle.card_history.proofs.law.every_card_gets_its_commands_in_order.Goals as goal

pub returns : goal.returns
returns c = λ card history. in_order card history
