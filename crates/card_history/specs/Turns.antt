-- What a shard may answer to a line, and its history afterwards, by cases on the answer.
use Rattle.std.specs.Prelude.{◌≡◌, ◌≢◌, ℕ, ◌+◌, ◌≤◌, List, [], ◌∷◌, ◌++◌, length, Some, All, Contains}
use Rattle.issuer_base.specs.declared.limits.TheConstants.{WINDOW}
use Rattle.issuer_base.specs.declared.request.Request.{Request}
use Rattle.issuer_base.specs.declared.answer.Reply.{Reply}
use Rattle.issuer_base.specs.declared.answer.Answer.{Answer}
use Rattle.issuer_base.specs.declared.answer.Answer.TheVariants.{Fresh, Kept, Queued, Set, Refused}
use Rattle.issuer_base.specs.declared.answer.Refusal.TheVariants.{Below, Taken, QueueFull}
use Rattle.issuer_base.specs.declared.entry.Entry.{Entry}
use Rattle.issuer_base.specs.declared.command.Command.{Command}
use Rattle.issuer_base.specs.declared.entry.Entry.TheVariants.{Decided, Queued as IsQueued, Status as IsStatus}
use Rattle.card_history.specs.declared.decision.Decision.{Decision}
use Rattle.script_queue.specs.CommandQueue.{TakesOneMore}
use Rattle.issuer_base.specs.CardNames.{CardName}
use Rattle.card_history.specs.Records.{decided, card_of, greatest_atc, IsBelow}
use Rattle.card_history.specs.Scripts.{waiting, scripts_of}

-- the request's ATC is in the window of these decisions, and none of them has it
pub record IsUnused (decisions : List Decision) (request : Request) : Type 0 where
  pub in_window : IsBelow (greatest_atc decisions) request.atc → ⊥
  pub unrecorded : All (λ decision. decision.request.atc ≢ request.atc) decisions

-- the request's ATC is in the window, and this decision has it
pub record IsUsed (decisions : List Decision) (request : Request) (decision : Decision) : Type 0 where
  pub in_window : IsBelow (greatest_atc decisions) request.atc → ⊥
  pub recorded : Contains decisions decision
  pub same_counter : decision.request.atc ≡ request.atc

-- the request's ATC is below the window of this greatest ATC
pub record IsTooOld (decisions : List Decision) (request : Request) (top : ℕ) : Type 0 where
  pub greatest_is : greatest_atc decisions ≡ Some top
  pub below : request.atc + WINDOW ≤ top

-- the decisions of the request's card in the shard's history
abbrev pub decided_for : Request → List Entry → List Decision
decided_for request history = decided (card_of request) history

-- what shard number `shard` may answer to a request, and its history afterwards; `reply_to` is the issuer's decision
-- after a history
abbrev pub Answers : ℕ → (List Entry → Request → Reply) → List Entry → Request → Answer → List Entry → Type 0
-- an unused ATC is decided, and its record has the index after the last
Answers shard reply_to before request (Fresh at place reply) after =
    IsUnused (decided_for request before) request × (at ≡ shard) × (place ≡ length before)
    × (reply ≡ reply_to before request)
    × (after ≡ before ++ Decided request reply ∷ [])
-- a repeat gets its stored reply
Answers shard reply_to before request (Kept at place reply) after =
    IsUsed (decided_for request before) request (record { request = request; reply = reply; place = place })
    × (at ≡ shard) × (after ≡ before)
-- an ATC below the window is too old
Answers shard reply_to before request (Refused (Below top)) after =
    IsTooOld (decided_for request before) request top × (after ≡ before)
-- an ATC on which another request was decided is already decided
Answers shard reply_to before request (Refused (Taken at place)) after =
    ((decision : Decision) × IsUsed (decided_for request before) request decision × (decision.place ≡ place)
    × (decision.request ≢ request))
    × (at ≡ shard) × (after ≡ before)
-- no other answer is possible
Answers shard reply_to before request _ after = ⊥

-- what shard number `shard` may answer to a command for this card, and its history afterwards
abbrev pub AnswersCommand : ℕ → List Entry → CardName → Command → Answer → List Entry → Type 0
-- a command that the card's queue accepts is queued, and its record has the index after the last
AnswersCommand shard before card command (Queued at place) after =
    TakesOneMore (waiting (scripts_of card before)) × (at ≡ shard) × (place ≡ length before)
    × (after ≡ before ++ IsQueued card.pan card.psn command ∷ [])
-- one that the queue doesn't accept is refused
AnswersCommand shard before card command (Refused QueueFull) after =
    (TakesOneMore (waiting (scripts_of card before)) → ⊥) × (after ≡ before)
-- no other answer is possible
AnswersCommand shard before card command _ after = ⊥

-- what shard number `shard` may answer to a status for this card, and its history afterwards: the card has it
abbrev pub AnswersStatus : ℕ → List Entry → CardName → ℕ → Answer → List Entry → Type 0
AnswersStatus shard before card status (Set at place) after =
    (at ≡ shard) × (place ≡ length before) × (after ≡ before ++ IsStatus card.pan card.psn status ∷ [])
AnswersStatus shard before card status _ after = ⊥
