-- The steps so far that are those of the shard's cards were counted.
use Rattle.std.proofs.Common.{◌≡◌, ◌≤◌}
use Rattle.world_play.specs.Room.{steps_of}
use Rattle.world_play.proofs.opening.steps_of.Given as goal

abbrev pub invariant-loop-index : goal.invariant-loop-index
invariant-loop-index l = record {
  count_is : l.count ≡ steps_of l.cards l.shard l.index;
  few : l.count ≤ l.index;
}
