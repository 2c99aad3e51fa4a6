-- What holds of the answers to several callers: by the histories at opening and at close, and by those that each caller
-- has seen.
use Rattle.std.specs.Prelude.{◌≡◌, ◌≢◌, ◌⊎◌, ℕ, suc, ◌+◌, ◌<◌, ◌≤◌, List, length, map, slice_get, Bool, Some, Result}
use Rattle.std.specs.Prelude.{Ok, Err}
use Rattle.issuer_base.specs.declared.answer.Answer.{Answer}
use Rattle.issuer_base.specs.declared.answer.Answer.TheVariants.{Fresh, Kept, Queued, Set, Refused}
use Rattle.issuer_base.specs.declared.answer.Refusal.{Refusal}
use Rattle.issuer_base.specs.declared.answer.Refusal.TheVariants.{Below, Taken, QueueFull, Pending, StoreFault}
use Rattle.issuer_base.specs.declared.answer.Reply.{Reply}
use Rattle.issuer_base.specs.declared.command.Command.{Command}
use Rattle.issuer_base.specs.declared.entry.Entry.{Entry}
use Rattle.issuer_base.specs.declared.entry.Entry.TheVariants.{Decided, Queued as IsQueued, Status as IsStatus}
use Rattle.issuer_base.specs.declared.limits.TheConstants.{WINDOW}
use Rattle.issuer_base.specs.declared.request.Request.{Request}
use Rattle.card_history.specs.declared.decision.Asked.{Asked}
use Rattle.card_history.specs.declared.decision.Asked.TheVariants.{Decide, Queue, Status}
use Rattle.card_history.specs.OneReply.{IsOncePerCounter, IsOfItsRecord, reply_in}
use Rattle.issuer_base.specs.CardNames.{CardName, named}
use Rattle.card_history.specs.Records.{card_of}
use Rattle.card_history.specs.Scripts.{waiting, scripts_of}
use Rattle.script_queue.specs.CommandQueue.{TakesOneMore}
use Rattle.issuer_setup.specs.IssuerSetup.{Setup, shard_of}
use Rattle.shard_book.specs.Replying.{reply_to}
use Rattle.line_checks.specs.Reading.{reading}
use Rattle.turn_book.specs.declared.logs.Log.{Log}
use Rattle.turn_book.specs.Logs.{items_at}
use Rattle.shard_book.specs.Answering.{AnswersClaimed, AnswersQueueing, AnswersSetting}
use Rattle.shared_shards.specs.declared.logs.LogItem.{LogItem}
use Rattle.shared_shards.specs.declared.logs.LogHead.{LogHead}
use Rattle.shared_shards.specs.ShardLogs.{records_of}
use Rattle.shard_book.specs.Histories.{GoesOn}
use Rattle.one_caller.specs.OneHistory.{IsAnswered}
use Rattle.shared_laws.specs.Shares.{Share}

-- the history of a shard: the records of its log
abbrev pub history_at : List (Log LogItem LogHead) → ℕ → List Entry
history_at logs shard = records_of (items_at logs shard)

-- the histories of all shards
abbrev pub histories_in : List (Log LogItem LogHead) → List (List Entry)
histories_in logs = map (λ log. records_of log.items) logs

-- ---- an answer, by the histories at opening and at close

-- some record is a decision on this ATC of the card
pub record IsDecidedOn (card : CardName) (counter : ℕ) (history : List Entry) : Type 0 where
  pub place : ℕ
  pub request : Request
  pub reply : Reply
  pub record_is : slice_get history place ≡ Some (Decided request reply)
  pub card_is : card_of request ≡ card
  pub counter_is : request.atc ≡ counter

-- the record at this index is a decision on the request's card and ATC, of another request
pub record IsTakenAt (request : Request) (history : List Entry) (place : ℕ) : Type 0 where
  pub other : Request
  pub reply : Reply
  pub record_is : slice_get history place ≡ Some (Decided other reply)
  pub card_is : card_of other ≡ card_of request
  pub counter_is : other.atc ≡ request.atc
  pub apart : other ≢ request

-- in some history between these, the card's queue takes no further command
pub record WasFull (card : CardName) (first last : List Entry) : Type 0 where
  pub between : List Entry
  pub from_first : GoesOn first between
  pub to_last : GoesOn between last
  pub full : TakesOneMore (waiting (scripts_of card between)) → ⊥

-- the answer to a request, by the first and the last history of its card's shard
abbrev pub ExplainsRequest : ℕ → List Entry → List Entry → Request → Answer → Type 0
-- `Fresh` names a record of this run, and `Kept` may name an older one
ExplainsRequest shard first last request (Fresh at place reply) =
    (at ≡ shard) × (length first ≤ place) × (slice_get last place ≡ Some (Decided request reply))
ExplainsRequest shard first last request (Kept at place reply) =
    (at ≡ shard) × (slice_get last place ≡ Some (Decided request reply))
-- the ATC in the answer is recorded, and shows that the request's is below the window
ExplainsRequest shard first last request (Refused (Below top)) =
    (request.atc + WINDOW ≤ top) × IsDecidedOn (card_of request) top last
ExplainsRequest shard first last request (Refused (Taken at place)) = (at ≡ shard) × IsTakenAt request last place
-- another caller has claimed the ATC, or the store failed: the histories needn't show it
ExplainsRequest shard first last request (Refused Pending) = Unit {0}
ExplainsRequest shard first last request (Refused StoreFault) = Unit {0}
-- no other answer is possible
ExplainsRequest shard first last request _ = ⊥

-- the answer to a command for the card
abbrev pub ExplainsCommand : ℕ → List Entry → List Entry → CardName → Command → Answer → Type 0
ExplainsCommand shard first last card command (Queued at place) =
    (at ≡ shard) × (length first ≤ place) × (slice_get last place ≡ Some (IsQueued card.pan card.psn command))
ExplainsCommand shard first last card command (Refused QueueFull) = WasFull card first last
ExplainsCommand shard first last card command (Refused StoreFault) = Unit {0}
ExplainsCommand shard first last card command _ = ⊥

-- the answer to a status for the card
abbrev pub ExplainsStatus : ℕ → List Entry → List Entry → CardName → ℕ → Answer → Type 0
ExplainsStatus shard first last card status (Set at place) =
    (at ≡ shard) × (length first ≤ place) × (slice_get last place ≡ Some (IsStatus card.pan card.psn status))
ExplainsStatus shard first last card status (Refused StoreFault) = Unit {0}
ExplainsStatus shard first last card status _ = ⊥

-- the answer to a line, by the first and the last history of each shard. A line that the checks refuse has exactly that
-- refusal; any other line is explained in the shard of its card
abbrev pub Explains : Setup → (ℕ → List Entry) → (ℕ → List Entry) → Result Asked Refusal → Answer → Type 0
Explains issuer first last (Err refusal) answer = answer ≡ Refused refusal
Explains issuer first last (Ok (Decide request)) answer =
    ExplainsRequest (shard_of issuer (card_of request)) (first (shard_of issuer (card_of request)))
    (last (shard_of issuer (card_of request))) request answer
Explains issuer first last (Ok (Queue pan psn command)) answer =
    ExplainsCommand (shard_of issuer (named pan psn)) (first (shard_of issuer (named pan psn)))
    (last (shard_of issuer (named pan psn))) (named pan psn) command answer
Explains issuer first last (Ok (Status pan psn status)) answer =
    ExplainsStatus (shard_of issuer (named pan psn)) (first (shard_of issuer (named pan psn)))
    (last (shard_of issuer (named pan psn))) (named pan psn) status answer

-- ---- the answers to one caller, by what it has seen

-- a turn in a shard, whose history extends what the caller had seen; the caller sees its change, and nothing new of
-- other shards
pub record SeesTurn (shard : ℕ) (Changes : List Entry → List Entry → Type 0)
    (before after : ℕ → List Entry) : Type 0 where
  pub between : List Entry
  pub goes_on : GoesOn (before shard) between
  pub changes : Changes between (after shard)
  pub others : (other : ℕ) → other ≢ shard → after other ≡ before other

-- a request was refused without a turn, by its card's top
pub record IsToldBelow (request : Request) (answer : Answer) (before after : ℕ → List Entry) : Type 0 where
  pub top : ℕ
  pub answer_is : answer ≡ Refused (Below top)
  pub below : request.atc + WINDOW ≤ top
  pub same : (shard : ℕ) → after shard ≡ before shard

-- the answer to a line whose caller had seen the histories `before` and has then seen `after`; at a turn, the history
-- of the card's shard allows it
abbrev pub Sees : Setup → Result Asked Refusal → (ℕ → List Entry) → Answer → (ℕ → List Entry) → Type 0
Sees issuer (Err refusal) before answer after = (answer ≡ Refused refusal) × ((shard : ℕ) → after shard ≡ before shard)
Sees issuer (Ok (Decide request)) before answer after =
    IsToldBelow request answer before after
    ⊎ ((won : Bool) × SeesTurn (shard_of issuer (card_of request))
    (λ old new. AnswersClaimed (shard_of issuer (card_of request))
    (reply_to issuer) won old request answer new) before after)
Sees issuer (Ok (Queue pan psn command)) before answer after =
    SeesTurn (shard_of issuer (named pan psn))
    (λ old new. AnswersQueueing (shard_of issuer (named pan psn)) old (named pan psn) command answer new) before after
Sees issuer (Ok (Status pan psn status)) before answer after =
    SeesTurn (shard_of issuer (named pan psn))
    (λ old new. AnswersSetting (shard_of issuer (named pan psn)) old (named pan psn) status answer new) before after

-- one caller's answers are in order: there are histories that it has seen after each line; each extends the one before,
-- the last history extends them all, and they allow each answer
pub record AreAnsweredInOrder (issuer : Setup) (first last : ℕ → List Entry) (lines : List (List ℕ))
    (answers : List Answer) : Type 0 where
  -- what it has seen of a shard after this many lines
  pub seen : ℕ → ℕ → List Entry
  pub begins : seen 0 ≡ first
  pub goes_on : (count shard : ℕ) → count < length lines → GoesOn (seen count shard) (seen (suc count) shard)
  pub within : (count shard : ℕ) → count ≤ length lines → GoesOn (seen count shard) (last shard)
  pub sees : (index : ℕ) (line : List ℕ) (answer : Answer) → slice_get lines index ≡ Some line
      → slice_get answers index ≡ Some answer
      → Sees issuer (reading issuer line) (seen index) answer (seen (suc index))

-- ---- all answers

-- the answers in the shares, by the first and the last history of each shard, and the list of the last ones
pub record AreExplained (issuer : Setup) (first last : ℕ → List Entry) (histories : List (List Entry))
    (shares : List Share) : Type 0 where
  -- each line was answered
  pub answered : (index : ℕ) (share : Share) → slice_get shares index ≡ Some share
      → length share.answers ≡ length share.lines
  -- each answer is explained by the first and the last histories
  pub explained : (index place : ℕ) (share : Share) (line : List ℕ) (answer : Answer)
      → slice_get shares index ≡ Some share
      → slice_get share.lines place ≡ Some line → slice_get share.answers place ≡ Some answer
      → Explains issuer first last (reading issuer line) answer
  -- the answers of each share are in order
  pub in_order : (index : ℕ) (share : Share) → slice_get shares index ≡ Some share
      → AreAnsweredInOrder issuer first last share.lines share.answers
  -- the record that showed a caller that an ATC is too old isn't one that the same caller decided later
  pub below_first : (index place later : ℕ) (share : Share) (request other : Request) (top shard at : ℕ)
      (reply : Reply) → slice_get shares index ≡ Some share → place < later
      → IsAnswered issuer share.lines share.answers place request (Refused (Below top))
      → IsAnswered issuer share.lines share.answers later other (Fresh shard at reply)
      → card_of other ≡ card_of request → other.atc ≢ top
  -- no ATC of a card was decided twice, whether in this run or before
  pub once : IsOncePerCounter histories
  -- each reply is that of its record
  pub recorded : (index place : ℕ) (share : Share) (request : Request) (answer : Answer)
      → slice_get shares index ≡ Some share
      → IsAnswered issuer share.lines share.answers place request answer → IsOfItsRecord histories request answer
  -- two replies to the same request are the same reply, in any shares
  pub one_reply : (index other_index place other_place : ℕ) (share other_share : Share) (request : Request)
      (answer other : Answer) (reply other_reply : Reply) → slice_get shares index ≡ Some share
      → slice_get shares other_index ≡ Some other_share
      → IsAnswered issuer share.lines share.answers place request answer
      → IsAnswered issuer other_share.lines other_share.answers other_place request other
      → reply_in answer ≡ Some reply → reply_in other ≡ Some other_reply → reply ≡ other_reply
