-- The answer to a line by a pass: the line is checked, and what was checked is finished.
use Rattle.std.specs.Prelude.{◌≡◌, ⊤, true, Result, Ok, Err}
use Rattle.issuer_base.specs.declared.answer.Answer.{Answer}
use Rattle.issuer_base.specs.declared.answer.Answer.TheVariants.{Refused}
use Rattle.issuer_base.specs.declared.answer.Refusal.{Refusal}
use Rattle.card_history.specs.declared.decision.Asked.{Asked}
use Rattle.card_history.specs.declared.decision.Asked.TheVariants.{Decide as AsksDecision}
use Rattle.issuer_setup.specs.IssuerSetup.{Setup}
use Rattle.claim_words.specs.declared.view.ClaimView.{ClaimView}
use Rattle.turn_book.specs.declared.view.TurnView.{TurnView}
use Rattle.shared_shards.specs.declared.logs.LogItem.{LogItem}
use Rattle.shared_shards.specs.declared.logs.LogHead.{LogHead}
use Rattle.shared_laws.specs.declared.checked.Checked.{Checked}
use Rattle.shared_laws.specs.Finishes.{claims_after, is_by_record, seen_for, FinishesInTurn, IsRecorded, WonIsDecided}
use Rattle.shared_laws.specs.PreChecks.{asked_of, PreChecks}

-- a refusal is the answer, and changes nothing more; what was checked is what the line asks, and is finished: a won
-- request to which the shard's records are open then is decided, or the store failed
abbrev pub EndsIn : Setup → Result Asked Refusal → Result Checked Refusal → ClaimView → TurnView LogItem LogHead
    → Answer → ClaimView
    → TurnView LogItem LogHead → Type 0
EndsIn issuer says (Err refusal) claims logs answer claims_now logs_now =
    (answer ≡ Refused refusal) × (claims_now ≡ claims) × (logs_now ≡ logs)
EndsIn issuer says (Ok checked) claims logs answer claims_now logs_now =
    (Ok (asked_of checked) ≡ says) × FinishesInTurn issuer checked logs answer logs_now
    × (claims_now ≡ claims_after checked answer claims)
    × WonIsDecided issuer checked answer logs_now

-- the line that asks this is answered so, by a pass with these claims that has seen these logs
pub record Authorises (issuer : Setup) (says : Result Asked Refusal) (claims : ClaimView)
    (logs : TurnView LogItem LogHead) (answer : Answer)
    (claims_now : ClaimView) (logs_now : TurnView LogItem LogHead) : Type 0 where
  pub checked : Result Checked Refusal
  pub between : ClaimView
  pub checks : PreChecks issuer says claims checked between
  pub ends : EndsIn issuer says checked between logs answer claims_now logs_now

-- a line with a request that passes every check, and whose ATC the pass had seen recorded, is answered by a record
abbrev pub LineSeenIsAnswered : Setup → Result Asked Refusal → TurnView LogItem LogHead → Answer → Type 0
LineSeenIsAnswered issuer (Err refusal) logs answer = ⊤
LineSeenIsAnswered issuer (Ok (AsksDecision request)) logs answer =
    IsRecorded (seen_for issuer request logs) request → is_by_record answer ≡ true
LineSeenIsAnswered issuer (Ok order) logs answer = ⊤
