-- The first rows are cleared.
use Rattle.world_model.proofs.FallenRows.{ClearedTo}
use Rattle.world_model.proofs.falling.clear_all.Given as goal

abbrev pub invariant-loop-number : goal.invariant-loop-number
invariant-loop-number l = ClearedTo l.initial.rows l.rows l.number
