-- What a shard over a store may answer, and its history afterwards: a turn's answer, or that its store failed.
use Rattle.std.specs.Prelude.{◌≡◌, ◌⊎◌, ℕ, ◌+◌, nat_lt, if◌then◌else◌, Bool, true, false, List, [], ◌∷◌, ◌++◌}
use Rattle.issuer_base.specs.declared.command.Command.{Command}
use Rattle.issuer_base.specs.declared.request.Request.{Request}
use Rattle.issuer_base.specs.declared.answer.Reply.{Reply}
use Rattle.issuer_base.specs.declared.answer.Answer.{Answer}
use Rattle.issuer_base.specs.declared.answer.Answer.TheVariants.{Fresh, Kept, Refused}
use Rattle.issuer_base.specs.declared.answer.Refusal.TheVariants.{Pending, StoreFault}
use Rattle.issuer_base.specs.declared.entry.Entry.{Entry}
use Rattle.issuer_base.specs.declared.limits.TheConstants.{MAX_FAULTS_REPORTED}
use Rattle.issuer_base.specs.declared.outside.store.Store.{Ghosts}
use Rattle.card_history.specs.declared.decision.Asked.{Asked}
use Rattle.card_history.specs.declared.decision.Asked.TheVariants.{Decide, Queue, Status}
use Rattle.issuer_base.specs.CardNames.{CardName, named}
use Rattle.card_history.specs.Scripts.{waiting, scripts_of}
use Rattle.card_history.specs.Turns.{IsUnused, decided_for, Answers, AnswersCommand, AnswersStatus}
use Rattle.script_queue.specs.CommandQueue.{TakesOneMore}
use Rattle.journal_rec.specs.RecordText.{text_of}
use Rattle.shard_book.specs.declared.shard.Shard.{Shard}
use Rattle.shard_book.specs.Shards.{HasTail}

-- whether the answer reports that the store failed
abbrev pub is_store_fault : Answer → Bool
is_store_fault (Refused StoreFault) = true
is_store_fault _ = false

-- whether the answer reports a new record, or that the store failed: any other leaves the shard unchanged
abbrev pub tells_change : Answer → Bool
tells_change (Refused StoreFault) = true
tells_change (Refused refusal) = false
tells_change (Kept at place reply) = false
tells_change _ = true

-- how many calls reported that the store failed, after one more call; the count saturates at a limit
abbrev pub reported_after : ℕ → Bool → ℕ
reported_after reported true = if nat_lt reported MAX_FAULTS_REPORTED then reported + 1 else reported
reported_after reported false = reported

-- what may be answered to a request whose claim was won or not
abbrev pub AnswersClaimed :
    ℕ → (List Entry → Request → Reply) → Bool → List Entry → Request → Answer → List Entry → Type 0
-- a request with a new ATC is decided for the caller that has claimed the ATC
AnswersClaimed shard reply_to won before request (Fresh at place reply) after =
    (won ≡ true) × Answers shard reply_to before request (Fresh at place reply) after
-- for another caller it is pending
AnswersClaimed shard reply_to won before request (Refused Pending) after =
    (won ≡ false) × IsUnused (decided_for request before) request × (after ≡ before)
-- if the store fails, nothing is decided
AnswersClaimed shard reply_to won before request (Refused StoreFault) after =
    (won ≡ true) × IsUnused (decided_for request before) request × (after ≡ before)
-- the history decides any other answer
AnswersClaimed shard reply_to won before request answer after = Answers shard reply_to before request answer after

-- what may be answered to a command
abbrev pub AnswersQueueing : ℕ → List Entry → CardName → Command → Answer → List Entry → Type 0
AnswersQueueing shard before card command (Refused StoreFault) after =
    TakesOneMore (waiting (scripts_of card before)) × (after ≡ before)
AnswersQueueing shard before card command answer after = AnswersCommand shard before card command answer after

-- what may be answered to a status
abbrev pub AnswersSetting : ℕ → List Entry → CardName → ℕ → Answer → List Entry → Type 0
AnswersSetting shard before card status (Refused StoreFault) after = after ≡ before
AnswersSetting shard before card status answer after = AnswersStatus shard before card status answer after

-- what may be answered to an order: a command to be queued, or a status to be set
abbrev pub AnswersOrder : ℕ → List Entry → Asked → Answer → List Entry → Type 0
AnswersOrder shard before (Queue pan psn command) answer after =
    AnswersQueueing shard before (named pan psn) command answer after
AnswersOrder shard before (Status pan psn status) answer after =
    AnswersSetting shard before (named pan psn) status answer after
AnswersOrder shard before (Decide request) answer after = ⊥

-- what is in doubt after an answer: nothing if the requested record was added; if the store failed, what was in doubt
-- before or a prefix of this record's text; otherwise what was in doubt before
abbrev pub LeavesTail : {S : Type 0} {G : Ghosts S} → Entry → List Entry → List ℕ → Answer → Shard S G → Type 0
LeavesTail asked before tail (Refused StoreFault) new = HasTail new before tail ⊎ HasTail new before (text_of asked)
LeavesTail asked before tail (Refused refusal) new = HasTail new before tail
LeavesTail asked before tail (Kept at place reply) new = HasTail new before tail
LeavesTail asked before tail _ new = HasTail new (before ++ asked ∷ []) []
