-- The rows of a world's cards while the records of its shards are replayed.
use Rattle.std.specs.Prelude.{◌≡◌, ◌<◌, ◌≤◌, ℕ, List, [], ◌∷◌, ◌++◌, length, slice_get, slice_set, slice_index_or, Some, None}
use Rattle.issuer_base.specs.declared.entry.Entry.{Entry}
use Rattle.card_history.specs.LegalRecords.{IsLegal, IsLegalHistory}
use Rattle.issuer_setup.specs.declared.card.CardInfo.{CardInfo}
use Rattle.issuer_setup.specs.IssuerSetup.{Setup}
use Rattle.row_core.specs.CardRow.{CardRow, StandsFor}
use Rattle.shard_book.specs.Grounds.{grounds_of}
use Rattle.world_net.specs.WorldState.{ShardState, no_shard}
use Rattle.world_model.specs.Stepping.{RowsStand}

-- each card has a row of its method
pub record AreRowsOf (issuer : Setup) (rows : List CardRow) : Type 0 where
  pub count : length issuer.cards ≤ length rows
  pub each : (number : ℕ) (info : CardInfo) (row : CardRow) → slice_get issuer.cards number ≡ Some info
      → slice_get rows number ≡ Some row
      → row.method ≡ info.method

-- each shard's history is legal
abbrev pub AreLegalHistories : Setup → List ShardState → Type 0
AreLegalHistories issuer shards =
    (shard : ℕ) → IsLegalHistory (grounds_of issuer) shard (slice_index_or shards shard no_shard).history

-- the rows stand for no records, whatever they stood for
pub record AreCleared (old new : List CardRow) : Type 0 where
  pub count : length new ≡ length old
  pub each : (number : ℕ) (row : CardRow) (info : CardInfo) → slice_get old number ≡ Some row → row.method ≡ info.method
      → (cleared : CardRow) × (slice_get new number ≡ Some cleared) × StandsFor info cleared []

-- these shards after one more record of one of them
abbrev pub with_entry : List ShardState → ℕ → Entry → List ShardState
with_entry shards shard entry =
    slice_set shards shard
    (record { history = (slice_index_or shards shard no_shard).history ++ entry ∷ []; doubt = None })

-- whichever shards the rows stood for: after one more record with this index, a valid successor, they stand for these
abbrev pub Replays : Setup → Entry → ℕ → List CardRow → List CardRow → Type 0
Replays issuer entry place old new =
    (shards : List ShardState) (shard : ℕ) → RowsStand issuer old shards → length shards ≡ issuer.shards
    → IsLegal (grounds_of issuer) shard (slice_index_or shards shard no_shard).history entry
    → place ≡ length (slice_index_or shards shard no_shard).history
    → RowsStand issuer new (with_entry shards shard entry)

-- and after all records of a shard that had none
abbrev pub ReplaysAll : Setup → List Entry → List CardRow → List CardRow → Type 0
ReplaysAll issuer history old new =
    (shards : List ShardState) (shard : ℕ) → RowsStand issuer old shards → length shards ≡ issuer.shards
    → shard < issuer.shards
    → IsLegalHistory (grounds_of issuer) shard history → (slice_index_or shards shard no_shard).history ≡ []
    → RowsStand issuer new (slice_set shards shard (record { history = history; doubt = None }))
