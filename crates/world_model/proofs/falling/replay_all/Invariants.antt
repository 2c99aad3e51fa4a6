-- The rows stand for the histories of the first shards.
use Rattle.std.proofs.Common.{◌≤◌, length}
use Rattle.world_model.proofs.FallenRows.{StandTo}
use Rattle.world_model.proofs.falling.replay_all.Given as goal

abbrev pub invariant-loop-number : goal.invariant-loop-number
invariant-loop-number l = record {
  stand : StandTo l.issuer l.rows l.shards l.number;
  enough : length l.issuer.cards ≤ length l.rows;
}
