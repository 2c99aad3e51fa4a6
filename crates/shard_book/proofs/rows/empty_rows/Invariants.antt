-- The rows that were made are those of the first cards of the shard.
use Rattle.std.proofs.Common.{◌≡◌, ◌+◌, ◌-◌, ◌*◌, ◌<◌, ℕ, length}
use Rattle.issuer_setup.specs.declared.card.CardInfo.{CardInfo}
use Rattle.shard_book.specs.ShardRows.{IsEmptyAt}
use Rattle.shard_book.proofs.rows.empty_rows.Given as goal

abbrev pub invariant-loop-card : goal.invariant-loop-card
invariant-loop-card l = record {
  at : l.card ≡ l.shard + length l.rows.items * l.issuer.shards;
  each : (place : ℕ) (card : CardInfo) → place < length l.rows.items → IsEmptyAt l.issuer l.shard l.rows.items place card;
}

abbrev pub decreases-loop-card : goal.decreases-loop-card
decreases-loop-card l = length l.issuer.cards - l.card
