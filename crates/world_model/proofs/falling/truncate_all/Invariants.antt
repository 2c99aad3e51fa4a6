-- The first shards are truncated.
use Rattle.world_model.proofs.Truncated.{TruncatedTo}
use Rattle.world_model.proofs.falling.truncate_all.Given as goal

abbrev pub invariant-loop-number : goal.invariant-loop-number
invariant-loop-number l = TruncatedTo l.keep l.initial.shards l.shards l.number
