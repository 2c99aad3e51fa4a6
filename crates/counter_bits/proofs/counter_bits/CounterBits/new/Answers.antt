-- If no word is open the sets are empty.
use Rattle.counter_bits.proofs.Bits.{no-bits}
use Rattle.counter_bits.proofs.counter_bits.CounterBits.new.Goals as goal

pub returns-clause-empty : goal.returns-clause-empty
returns-clause-empty c = no-bits (record { cards = c.args.cards; words = c.in_ok-opened.opened.items }) c.in_ok-opened.ensures.items
