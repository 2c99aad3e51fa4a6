-- The rows so far are the empty ones of the first cards.
use Rattle.world_model.specs.OpeningWorld.{AreEmpty}
use Rattle.world_model.proofs.net.empty_rows.Given as goal

abbrev pub invariant-loop-number : goal.invariant-loop-number
invariant-loop-number l = AreEmpty l.issuer.cards l.number l.rows.items
