-- The rows of a shard's cards, and the history that they stand for.
use Rattle.std.specs.Prelude.{◌≡◌, ◌↔◌, ℕ, ◌+◌, ◌*◌, ◌/◌, ◌%◌, ◌<◌, ◌≤◌, ◌^◌, Bool, ◌&&◌, ◌==◌, nat_lt, List, [], length, slice_get, Some}
use Rattle.std.specs.List.{list_any}
use Rattle.counter_bits.specs.CounterSets.{CounterSets, has, times, one_if}
use Rattle.issuer_base.specs.declared.entry.Entry.{Entry}
use Rattle.card_history.specs.declared.decision.Decision.{Decision}
use Rattle.card_history.specs.Records.{decided}
use Rattle.issuer_setup.specs.declared.card.CardInfo.{CardInfo}
use Rattle.issuer_setup.specs.CardList.{name_of}
use Rattle.issuer_setup.specs.IssuerSetup.{Setup}
use Rattle.row_core.specs.CardRow.{CardRow, StandsFor as RowStandsFor}

-- the number of the shard, how many shards and cards the issuer has, and the rows and the recorded ATCs of the shard's
-- cards, in the order of their numbers
pub record ShardRows : Type 0 where
  pub shard : ℕ
  pub shards : ℕ
  pub cards : ℕ
  pub rows : List CardRow
  pub bits : CounterSets

-- the number is that of a card of the shard
pub record IsHome (rows : ShardRows) (number : ℕ) : Type 0 where
  pub within : number < rows.cards
  pub home : number % rows.shards ≡ rows.shard

-- the number is that of a shard, and each of its cards has a row and a set of ATCs
pub record Covers (rows : ShardRows) : Type 0 where
  pub inside : rows.shard < rows.shards
  pub small : rows.cards < 2 ^ 32
  pub each : (number : ℕ) → IsHome rows number → number / rows.shards < length rows.rows
  pub sets : (number : ℕ) → number % rows.shards ≡ rows.shard
      → ((number < rows.cards) ↔ (number / rows.shards < rows.bits.cards))

-- the rows are of this issuer's cards
pub record AreRowsOf (issuer : Setup) (rows : ShardRows) : Type 0 where
  pub shards_are : rows.shards ≡ issuer.shards
  pub cards_are : rows.cards ≡ length issuer.cards

-- the rows are of the same shard
pub record AreSame (old new : ShardRows) : Type 0 where
  pub shard_is : new.shard ≡ old.shard
  pub shards_are : new.shards ≡ old.shards
  pub cards_are : new.cards ≡ old.cards

-- whether one of the decisions is on this ATC
unfoldable pub is_decided : ℕ → List Decision → Bool
is_decided counter decisions = list_any (λ decision. counter == decision.request.atc) decisions

-- the row of the card with this number stands for the history, and its recorded ATCs are those of its decisions
pub record RowStands (rows : ShardRows) (number : ℕ) (card : CardInfo) (history : List Entry) : Type 0 where
  pub row : CardRow
  pub row_is : slice_get rows.rows (number / rows.shards) ≡ Some row
  pub stands : RowStandsFor card row history
  pub counters_are : (counter : ℕ)
      → has rows.bits (number / rows.shards) counter ≡ is_decided counter (decided (name_of card) history)

-- the row of each of the shard's cards stands for the history
pub record RowsStandFor (issuer : Setup) (rows : ShardRows) (history : List Entry) : Type 0 where
  pub of_issuer : AreRowsOf issuer rows
  pub each : (number : ℕ) (card : CardInfo) → IsHome rows number → slice_get issuer.cards number ≡ Some card
      → RowStands rows number card history

-- the row with this index is that of its card, and stands for no records
abbrev pub IsEmptyAt : Setup → ℕ → List CardRow → ℕ → CardInfo → Type 0
IsEmptyAt issuer shard rows place card =
    slice_get issuer.cards (shard + place * issuer.shards) ≡ Some card
    → (row : CardRow) × (slice_get rows place ≡ Some row) × RowStandsFor card row []

-- each of the shard's cards has a row, and the rows stand for no records
pub record AreEmpty (issuer : Setup) (shard : ℕ) (rows : List CardRow) : Type 0 where
  pub whole : length issuer.cards ≤ shard + length rows * issuer.shards
  pub each : (place : ℕ) (card : CardInfo) → place < length rows → IsEmptyAt issuer shard rows place card

-- the longer list has what the list had, and each ATC in the sets of the shard's cards once more, with the card number
abbrev pub Lists : ShardRows → List (ℕ × ℕ) → List (ℕ × ℕ) → Type 0
Lists rows list longer =
    (number counter : ℕ) → times number counter longer ≡ times number counter list
    + one_if (number % rows.shards == rows.shard
    && (nat_lt (number / rows.shards) rows.bits.cards && has rows.bits (number / rows.shards) counter))
