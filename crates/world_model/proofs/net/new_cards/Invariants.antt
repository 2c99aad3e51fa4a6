-- The cards so far are new ones of the suite for the issuer's first cards, under the first key set.
use Rattle.world_net.specs.NewWorld.{AreUnder}
use Rattle.world_model.proofs.net.new_cards.Given as goal

abbrev pub invariant-loop-number : goal.invariant-loop-number
invariant-loop-number l = AreUnder l.set l.suite l.issuer.cards l.number l.cards.items
