-- What a turn at a shard may answer, what it appends to the shard's log, and what the seat has seen then.
use Rattle.std.specs.Prelude.{◌≡◌, ℕ, ◌%◌, ◌<◌, ◌≤◌, ◌&&◌, nat_lt, Bool, true, false, List, [], ◌∷◌, ◌++◌, length}
use Rattle.std.specs.Prelude.{slice_get, Option, None, Some}
use Rattle.issuer_base.specs.declared.request.Request.{Request}
use Rattle.issuer_base.specs.declared.answer.Answer.{Answer}
use Rattle.issuer_base.specs.declared.answer.Answer.TheVariants.{Fresh, Queued, Set, Refused}
use Rattle.issuer_base.specs.declared.answer.Refusal.TheVariants.{StoreFault}
use Rattle.issuer_base.specs.declared.entry.Entry.{Entry}
use Rattle.issuer_base.specs.declared.entry.Entry.TheVariants.{Decided}
use Rattle.issuer_base.specs.declared.limits.TheConstants.{MAX_FAULTS_REPORTED}
use Rattle.card_history.specs.LegalRecords.{IsLegal}
use Rattle.card_history.specs.Records.{card_of}
use Rattle.line_checks.specs.declared.checked.CheckedOrder.{CheckedOrder}
use Rattle.line_checks.specs.AtHand.{card_of_order, order_asked, record_of}
use Rattle.issuer_setup.specs.declared.card.CardInfo.{CardInfo}
use Rattle.issuer_setup.specs.CardList.{name_of}
use Rattle.issuer_setup.specs.IssuerSetup.{Setup, shard_of}
use Rattle.shard_book.specs.Replying.{reply_to}
use Rattle.shard_book.specs.Answering.{is_store_fault, AnswersClaimed, AnswersOrder}
use Rattle.shard_book.specs.Shards.{faults_in}
use Rattle.shard_book.specs.Grounds.{grounds_now}
use Rattle.card_history.specs.declared.card_view.CardView.{CardView}
use Rattle.turn_book.specs.declared.view.Turn.TheVariants.{Free}
use Rattle.turn_book.specs.declared.view.TurnView.{TurnView}
use Rattle.turn_book.specs.Logs.{items_at, with_items, IsFront}
use Rattle.turn_book.specs.TurnViews.{counted}
use Rattle.issuer_base.specs.declared.outside.store.Store.{Ghosts}
use Rattle.shared_shards.specs.declared.locked_shard.Call.{Call}
use Rattle.shared_shards.specs.declared.locked_shard.Call.TheVariants.{Decide as CalledToDecide, Order as CalledToOrder}
use Rattle.shared_shards.specs.declared.locked_shard.Called.{Called}
use Rattle.shared_shards.specs.declared.logs.LogHead.{LogHead}
use Rattle.shared_shards.specs.declared.logs.LogItem.{LogItem}
use Rattle.shared_shards.specs.declared.logs.LogItem.TheVariants.{Record, Fault}
use Rattle.card_history.specs.CardViews.{card_shown}
use Rattle.shared_shards.specs.ShardLogs.{records_of, faults_of}

-- the log with one item more, where there is one
abbrev pub log_after : List LogItem → Option LogItem → List LogItem
log_after items None = items
log_after items (Some item) = items ++ item ∷ []

-- a seat's indices, with that of the item that was appended to these items of the shard's log
abbrev pub mine_after : ℕ → List LogItem → Option LogItem → List (ℕ × ℕ) → List (ℕ × ℕ)
mine_after shard items None mine = mine
mine_after shard items (Some item) mine = (shard, length items) ∷ mine

-- what a seat knows after a turn at the shard, whose log had these items when the turn came
abbrev pub turned : ℕ → List LogItem → Option LogItem → TurnView LogItem LogHead → TurnView LogItem LogHead
turned shard between added view = record view {
  seen = with_items view.seen shard (log_after between added);
  mine = mine_after shard between added view.mine;
  turn = Free;
}

-- a record is appended, which is a valid successor by the issuer's own decision
abbrev pub AddsRecord : Setup → ℕ → List LogItem → Option LogItem → Type 0
AddsRecord issuer shard between added =
    (entry : Entry) × (added ≡ Some (Record entry)) × IsLegal (grounds_now issuer) shard (records_of between) entry

-- a fault is appended, while the log has fewer than the limit
abbrev pub AddsFault : List LogItem → Option LogItem → Type 0
AddsFault between None = MAX_FAULTS_REPORTED ≤ length (faults_of between)
AddsFault between (Some (Record entry)) = ⊥
AddsFault between (Some (Fault count)) = length (faults_of between) < MAX_FAULTS_REPORTED

-- an answer with a new record appends it, one that reports that the store failed appends that, and no other appends
-- anything
abbrev pub IsAdded : Setup → ℕ → List LogItem → Answer → Option LogItem → Type 0
IsAdded issuer shard between (Fresh at place reply) added = AddsRecord issuer shard between added
IsAdded issuer shard between (Queued at place) added = AddsRecord issuer shard between added
IsAdded issuer shard between (Set at place) added = AddsRecord issuer shard between added
IsAdded issuer shard between (Refused StoreFault) added = AddsFault between added
IsAdded issuer shard between _ added = added ≡ None

-- a turn at the shard: when it came, what the seat had seen was a prefix of the log; the answer changes the log's
-- records as it says, and the seat has then seen the whole log
pub record AnswersInTurn (issuer : Setup) (shard : ℕ) (Changes : List Entry → List Entry → Type 0)
    (before : TurnView LogItem LogHead) (answer : Answer)
    (after : TurnView LogItem LogHead) : Type 0 where
  pub between : List LogItem
  pub added : Option LogItem
  pub front : IsFront (items_at before.seen shard) between
  pub changes : Changes (records_of between) (records_of (log_after between added))
  pub adds : IsAdded issuer shard between answer added
  pub after_is : after ≡ turned shard between added before

-- a request whose claim was won or not is answered in the shard of its card
abbrev pub DecidesInTurn : Setup → Bool → Request → TurnView LogItem LogHead → Answer → TurnView LogItem LogHead
    → Type 0
DecidesInTurn issuer won request before answer after =
    AnswersInTurn issuer (shard_of issuer (card_of request))
    (λ old new. AnswersClaimed (shard_of issuer (card_of request))
    (reply_to issuer) won old request answer new) before answer after

-- so is an order: a command to be queued, or a status to be set
abbrev pub OrdersInTurn : Setup → CheckedOrder → TurnView LogItem LogHead → Answer → TurnView LogItem LogHead → Type 0
OrdersInTurn issuer order before answer after =
    AnswersInTurn issuer (shard_of issuer (card_of_order order))
    (λ old new. AnswersOrder (shard_of issuer (card_of_order order)) old
    (order_asked order) answer new) before answer after

-- the card with this number is shown as its shard's log says, and nothing is appended
pub record ShowsInTurn (issuer : Setup) (card : ℕ) (before : TurnView LogItem LogHead) (view : CardView)
    (after : TurnView LogItem LogHead) : Type 0 where
  pub between : List LogItem
  pub front : IsFront (items_at before.seen (card % issuer.shards)) between
  pub shown : (info : CardInfo) → slice_get issuer.cards card ≡ Some info
      → view ≡ card_shown (name_of info) (records_of between)
  pub after_is : after ≡ turned (card % issuer.shards) between None before

-- ---- inside a turn

-- the record that was decided, where one was
abbrev pub decided_by : Request → Answer → Option Entry
decided_by request (Fresh at place reply) = Some (Decided request reply)
decided_by request _ = None

-- the entry, where a command was queued or a status set
abbrev pub recorded_by : Entry → Answer → Option Entry
recorded_by entry (Queued at place) = Some entry
recorded_by entry (Set at place) = Some entry
recorded_by entry _ = None

-- the record that a call appends by its answer, where it appends one
abbrev pub record_by : Call → Answer → Option Entry
record_by (CalledToDecide found) answer = decided_by found.now.request answer
record_by (CalledToOrder found) answer = recorded_by (record_of found.now) answer

-- what a call appends: its record, or the store's fault count
abbrev pub item_by : Option Entry → ℕ → LogItem
item_by (Some entry) count = Record entry
item_by None count = Fault count

abbrev pub added_by : Option Entry → Bool → ℕ → Option LogItem
added_by (Some entry) fault count = Some (Record entry)
added_by None true count = Some (Fault count)
added_by None false count = None

-- what a call appends to its shard's log: its record, or that the store failed, up to a limit
abbrev pub added_in : {S : Type 0} {G : Ghosts S} → Called S G → Option LogItem
added_in called =
    added_by (record_by called.call called.answer.now)
    (is_store_fault called.answer.now && nat_lt called.reported MAX_FAULTS_REPORTED)
    (faults_in called.shard)

-- the view with one item more in the shard's log, where there is one
abbrev pub counted_if : ℕ → Option LogItem → TurnView LogItem LogHead → TurnView LogItem LogHead
counted_if shard None view = view
counted_if shard (Some item) view = counted shard item view
