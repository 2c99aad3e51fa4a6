-- Which record is a valid successor of a shard's history, and which histories are legal.
use Rattle.std.specs.Prelude.{◌≡◌, ◌≢◌, ◌≤◌, ℕ, List, take, slice_get, Some, true, IsTrue, All}
use Rattle.issuer_base.specs.declared.command.Command.{Command}
use Rattle.issuer_base.specs.declared.limits.TheConstants.{MAX_STATUS}
use Rattle.issuer_base.specs.declared.request.Request.{Request}
use Rattle.issuer_base.specs.declared.answer.Reply.{Reply}
use Rattle.issuer_base.specs.declared.entry.Entry.{Entry}
use Rattle.issuer_base.specs.declared.entry.Entry.TheVariants.{Decided, Queued, Status}
use Rattle.issuer_base.specs.ChipData.{is_arqc}
use Rattle.issuer_base.specs.ScriptCommand.{is_command}
use Rattle.script_queue.specs.CommandQueue.{TakesOneMore}
use Rattle.issuer_base.specs.CardNames.{CardName, named}
use Rattle.card_history.specs.Records.{card_of, greatest_atc, IsBelowBy}
use Rattle.card_history.specs.Scripts.{waiting, scripts_of}
use Rattle.card_history.specs.Turns.{decided_for}

-- what an issuer says of cards, keys and replies, and the window to which a card's records are held
pub record Grounds : Type 1 where
  -- how far below a card's greatest ATC the window ends
  pub window : ℕ
  -- the card is one of this shard's
  pub IsCardOfShard : ℕ → CardName → Type 0
  -- the request's card has keys under the key set that the request's derivation key index names
  pub HasKeys : Request → Type 0
  -- the request's application cryptogram is the one that these keys give: EMV 4.3 Book 2, section 8.1
  pub HasValidCryptogram : Request → Type 0
  -- the issuer gives this reply to the request after these records
  pub IsReply : List Entry → Request → Reply → Type 0

-- a decision is a valid successor of these records of the shard
pub record IsLegalDecision (grounds : Grounds) (shard : ℕ) (before : List Entry) (request : Request) (reply : Reply)
    : Type 0 where
  -- its PAN and PSN name a card of this shard
  pub of_a_card : grounds.IsCardOfShard shard (card_of request)
  -- it asks the issuer to authorise online, by an ARQC
  pub is_for_a_cryptogram_request : is_arqc request ≡ true
  pub has_its_keys : grounds.HasKeys request
  pub has_valid_ac : grounds.HasValidCryptogram request
  -- no record decides this card and transaction counter
  pub unrecorded : All (λ decision. decision.request.atc ≢ request.atc) (decided_for request before)
  -- the transaction counter isn't below the card's window
  pub in_window : IsBelowBy grounds.window (greatest_atc (decided_for request before)) request.atc → ⊥
  pub is_the_issuers_reply : grounds.IsReply before request reply

-- a command is a valid successor: it is for one of the shard's cards, the host sends such commands, and the card's
-- queue takes it
pub record IsLegalCommand (grounds : Grounds) (shard : ℕ) (before : List Entry) (card : CardName)
    (command : Command) : Type 0 where
  pub of_a_card : grounds.IsCardOfShard shard card
  pub form : IsTrue (is_command command)
  pub room : TakesOneMore (waiting (scripts_of card before))

-- a status is a valid successor: it is for one of the shard's cards, and 0 to 9
pub record IsLegalStatus (grounds : Grounds) (shard : ℕ) (card : CardName) (status : ℕ) : Type 0 where
  pub of_a_card : grounds.IsCardOfShard shard card
  pub within : status ≤ MAX_STATUS

-- a record is a valid successor of these of this shard
abbrev pub IsLegal : Grounds → ℕ → List Entry → Entry → Type 0
IsLegal grounds shard before (Decided request reply) = IsLegalDecision grounds shard before request reply
IsLegal grounds shard before (Queued pan psn command) = IsLegalCommand grounds shard before (named pan psn) command
IsLegal grounds shard before (Status pan psn status) = IsLegalStatus grounds shard (named pan psn) status

-- a history is legal if each record is a valid successor of those before it
abbrev pub IsLegalHistory : Grounds → ℕ → List Entry → Type 0
IsLegalHistory grounds shard history =
    (place : ℕ) (entry : Entry) → slice_get history place ≡ Some entry
    → IsLegal grounds shard (take place history) entry
