-- The rows stand for the first records of the shard.
use Rattle.std.proofs.Common.{◌≡◌, ◌<◌, ℕ, List, [], length}
use Rattle.card_history.specs.LegalRecords.{IsLegalHistory}
use Rattle.shard_book.specs.Grounds.{grounds_of}
use Rattle.world_model.specs.Stepping.{RowsStand}
use Rattle.world_net.specs.WorldState.{ShardState}
use Rattle.world_model.proofs.FallenRows.{filled_to}
use Rattle.world_net.proofs.Hosts.{at}
use Rattle.world_model.proofs.falling.replay.Given as goal

abbrev pub invariant-loop-place : goal.invariant-loop-place
invariant-loop-place l = record {
  replayed : (shards : List ShardState) (shard : ℕ) → RowsStand l.issuer l.initial.rows shards → length shards ≡ l.issuer.shards
      → shard < l.issuer.shards → IsLegalHistory (grounds_of l.issuer) shard l.history → (at shards shard).history ≡ []
      → RowsStand l.issuer l.rows (filled_to shards shard l.history l.place);
  count : length l.rows ≡ length l.initial.rows;
}
