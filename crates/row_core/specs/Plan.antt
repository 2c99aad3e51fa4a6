-- What is planned for a request of a card: the answer of its shard, and the record that goes with it.
use Rattle.std.specs.Prelude.{◌≡◌, ◌≤◌, ℕ, List, [], ◌∷◌, ◌++◌, length, Option}
use Rattle.issuer_base.specs.declared.request.Request.{Request}
use Rattle.issuer_base.specs.declared.answer.Answer.{Answer}
use Rattle.issuer_base.specs.declared.answer.Reply.{Reply}
use Rattle.issuer_base.specs.declared.answer.Answer.TheVariants.{Fresh as AnswerFresh, Kept as AnswerKept, Refused}
use Rattle.issuer_base.specs.declared.answer.Refusal.TheVariants.{Below as IsBelowWindow, Taken as IsTaken}
use Rattle.issuer_base.specs.declared.entry.Entry.{Entry}
use Rattle.issuer_base.specs.declared.command.Command.{Command}
use Rattle.issuer_base.specs.declared.entry.Entry.TheVariants.{Decided, Queued, Status}
use Rattle.card_history.specs.declared.decision.Decision.{Decision}
use Rattle.card_history.specs.Records.{card_of, decided}
use Rattle.card_history.specs.Turns.{IsUnused, Answers}
use Rattle.key_derive.specs.declared.card.CardKeys.{CardKeys}
use Rattle.decision_table.specs.declared.row.TableRow.{TableRow}
use Rattle.issuer_setup.specs.declared.card.CardInfo.{CardInfo}
use Rattle.issuer_setup.specs.CardList.{name_of}
use Rattle.row_core.specs.CardRow.{CardRow, StandsFor}
use Rattle.row_core.specs.Launching.{IsLaunchFor}
use Rattle.row_core.specs.Replying.{reply_after}
use Rattle.row_core.specs.declared.scripts.Launch.{Launch}
use Rattle.row_core.specs.declared.row.Outcome.{Outcome}
use Rattle.row_core.specs.declared.row.Outcome.TheVariants.{Fresh, Kept, Below, Taken}

-- the answer of this shard, which has so many records, to a request for which this is planned
abbrev pub answer_of : ℕ → ℕ → Outcome → Answer
answer_of shard records (Fresh reply launch) = AnswerFresh shard records reply
answer_of shard records (Kept reply place) = AnswerKept shard place reply.now
answer_of shard records (Below greatest) = Refused (IsBelowWindow greatest)
answer_of shard records (Taken place) = Refused (IsTaken shard place)

-- a history with a command for this card
abbrev pub with_command_for : List Entry → CardInfo → Command → List Entry
with_command_for history card command = history ++ Queued card.pan card.psn command ∷ []

-- a history with a status for this card
abbrev pub with_status_for : List Entry → CardInfo → ℕ → List Entry
with_status_for history card status = history ++ Status card.pan card.psn status ∷ []

-- a history with the record of this decision
abbrev pub with_record : List Entry → Decision → List Entry
with_record history decision = history ++ Decided decision.request decision.reply ∷ []

-- the shard's history once the plan for this request is applied
abbrev pub history_after : List Entry → Request → Outcome → List Entry
history_after history request (Fresh reply launch) = history ++ Decided request reply ∷ []
history_after history request _ = history

-- a plan for a request of the row's card is one turn's answer to it: by the decisions on its ATC, and for a fresh one
-- by the first row of the table that matches
abbrev pub IsPlan : CardRow → CardKeys → List TableRow → Request → Outcome → Type 0
IsPlan row keys table request outcome =
    (shard : ℕ) (card : CardInfo) (history : List Entry)
    → StandsFor card row history → card_of request ≡ name_of card
    → Answers shard (reply_after card.method keys table) history request (answer_of shard (length history) outcome)
    (history_after history request outcome)

-- a reply is whole, with a response code of two bytes and at least a byte for the card, and comes with the launch of
-- the row for this request
pub record IsStep (row : CardRow) (request : Request) (reply : Reply) (launch : Option Launch) : Type 0 where
  pub some : 1 ≤ length reply.bytes.items
  pub code : length reply.arc ≡ 2
  pub launch_is : IsLaunchFor row request launch

-- what is planned of a fresh decision is whole
abbrev pub IsStepped : CardRow → Request → Outcome → Type 0
IsStepped row request (Fresh reply launch) = IsStep row request reply launch
IsStepped row request _ = Unit {0}

-- the decision is the next one of the row's card after this history: it is of the card, its index is that after the
-- last, and its ATC is in the window and unused
pub record IsNext (card : CardInfo) (history : List Entry) (decision : Decision) : Type 0 where
  pub of_card : card_of decision.request ≡ name_of card
  pub at_end : decision.place ≡ length history
  pub unused : IsUnused (decided (name_of card) history) decision.request
