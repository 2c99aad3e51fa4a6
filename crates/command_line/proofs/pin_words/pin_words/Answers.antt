-- The words of the command are parsed as the order that they say.
use Rattle.command_line.proofs.PinOrders.{order-named, none-named}
use Rattle.command_line.proofs.pin_words.pin_words.Goals as goal

pub returns-clause-order : goal.returns-clause-order
returns-clause-order c = order-named c.args.words.now c.values_in.result c.requires c.values_in.ensures

pub returns-clause-none : goal.returns-clause-none
returns-clause-none c = none-named c.args.words.now c.values_in.result c.values_in.ensures
