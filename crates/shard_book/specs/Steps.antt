-- What one more record does to the rows of a shard.
use Rattle.std.specs.Prelude.{◌≡◌, ◌↔◌, ℕ, ◌/◌, Bool, List, slice_get, Option, Some, MatchOption, IsTrue}
use Rattle.issuer_base.specs.declared.command.Command.{Command}
use Rattle.issuer_base.specs.declared.entry.Entry.{Entry}
use Rattle.issuer_base.specs.declared.answer.Reply.{Reply}
use Rattle.card_history.specs.Records.{card_of}
use Rattle.row_core.specs.Accepting.{IsValidSuccessor}
use Rattle.card_history.specs.declared.decision.Decision.{Decision}
use Rattle.card_history.specs.Scripts.{waiting, scripts_of}
use Rattle.card_history.specs.Turns.{IsUnused, decided_for}
use Rattle.script_queue.specs.CommandQueue.{TakesOneMore}
use Rattle.issuer_setup.specs.declared.card.CardInfo.{CardInfo}
use Rattle.issuer_setup.specs.CardList.{AreCards, name_of}
use Rattle.issuer_setup.specs.IssuerSetup.{Setup}
use Rattle.row_core.specs.Known.{IsKnown}
use Rattle.row_core.specs.Plan.{with_record, with_command_for, with_status_for, IsNext}
use Rattle.row_core.specs.CardRow.{CardRow}
use Rattle.row_core.specs.Launching.{IsLaunchFor}
use Rattle.row_core.specs.declared.scripts.Launch.{Launch}
use Rattle.row_core.specs.declared.row.Known.{Known}
use Rattle.line_checks.specs.declared.checked.CheckedRequest.{CheckedRequest}
use Rattle.shard_book.specs.ShardRows.{ShardRows, RowsStandFor}

-- the issuer's card with this number
pub record IsCardOf (issuer : Setup) (number : ℕ) (card : CardInfo) : Type 0 where
  pub valid : AreCards issuer.cards
  pub card_is : slice_get issuer.cards number ≡ Some card

-- this is known of the request after each history that the rows stand for; if nothing is, its ATC is unused
abbrev pub IsKnownFor : Setup → ShardRows → CheckedRequest → Option Known → Type 0
IsKnownFor issuer rows found known =
    (history : List Entry) → RowsStandFor issuer rows history
    → MatchOption known (IsUnused (decided_for found.request history) found.request)
    (IsKnown (decided_for found.request history) found.request)

-- the launch is that of the request's card's row
abbrev pub IsLaunchAt : ShardRows → CheckedRequest → Option Launch → Type 0
IsLaunchAt rows found launch =
    (row : CardRow) → slice_get rows.rows (found.card / rows.shards) ≡ Some row → IsLaunchFor row found.request launch

-- the decision of this request, a valid successor, is added
abbrev pub Applies : ShardRows → CheckedRequest → Decision → ShardRows → Type 0
Applies old found step new =
    (issuer : Setup) (card : CardInfo) (history : List Entry) → RowsStandFor issuer old history
    → IsCardOf issuer found.card card
    → IsNext card history step → step.request ≡ found.request → RowsStandFor issuer new (with_record history step)

-- whether the decision of this request of a card is a valid successor by this window
abbrev pub Accepts : ℕ → ShardRows → CheckedRequest → Reply → Bool → Type 0
Accepts window rows found reply accepted =
    (issuer : Setup) (card : CardInfo) (history : List Entry) → RowsStandFor issuer rows history
    → IsCardOf issuer found.card card
    → card_of found.request ≡ name_of card
    → (IsTrue accepted ↔ IsValidSuccessor window card.method found.keys history found.request reply)

-- whether the card's queue accepts one more command
abbrev pub TakesCommand : ShardRows → ℕ → Bool → Type 0
TakesCommand rows number takes =
    (issuer : Setup) (card : CardInfo) (history : List Entry) → RowsStandFor issuer rows history
    → IsCardOf issuer number card
    → (IsTrue takes ↔ TakesOneMore (waiting (scripts_of (name_of card) history)))

-- the command is queued for this card, whose queue accepts it
abbrev pub Queues : ShardRows → ℕ → Command → ShardRows → Type 0
Queues old number command new =
    (issuer : Setup) (card : CardInfo) (history : List Entry) → RowsStandFor issuer old history
    → IsCardOf issuer number card
    → TakesOneMore (waiting (scripts_of (name_of card) history))
    → RowsStandFor issuer new (with_command_for history card command)

-- this card has the status
abbrev pub SetsStatus : ShardRows → ℕ → ℕ → ShardRows → Type 0
SetsStatus old number status new =
    (issuer : Setup) (card : CardInfo) (history : List Entry) → RowsStandFor issuer old history
    → IsCardOf issuer number card
    → RowsStandFor issuer new (with_status_for history card status)
