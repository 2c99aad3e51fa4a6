-- The law of a card's issuer script commands: they are sent in the order in which they were queued, from the first
-- undone one.
use Rattle.std.specs.Prelude.{◌≡◌, ◌≤◌, ◌<◌, ℕ, ◌+◌, List, length, take, drop, slice_get, Some, true}
use Rattle.issuer_base.specs.declared.command.Command.{Command}
use Rattle.issuer_base.specs.declared.request.Request.{Request}
use Rattle.issuer_base.specs.declared.answer.Reply.{Reply}
use Rattle.issuer_base.specs.declared.entry.Entry.{Entry}
use Rattle.issuer_base.specs.declared.entry.Entry.TheVariants.{Decided}
use Rattle.issuer_base.specs.CardNames.{CardName}
use Rattle.card_history.specs.Records.{is_of, queue}
use Rattle.card_history.specs.Scripts.{scripts_of, batch_of, first_of}

-- the record at this index decided a request of the card, and these commands went with its reply, the first of them
-- with this number
pub record IsSentAt (card : CardName) (history : List Entry) (place first : ℕ) (commands : List Command) : Type 0 where
  pub request : Request
  pub reply : Reply
  pub record_is : slice_get history place ≡ Some (Decided request reply)
  pub its : is_of card request ≡ true
  pub first_is : first ≡ first_of request (scripts_of card (take place history))
  pub commands_are : commands ≡ batch_of request (scripts_of card (take place history))

-- the command with this number went with a reply
abbrev pub IsSent : CardName → List Entry → ℕ → Type 0
IsSent card history number =
    (place : ℕ) × (first : ℕ) × (commands : List Command) × IsSentAt card history place first commands
    × (first ≤ number) × (number < first + length commands)

-- what holds of a card's commands after a history
pub record AreInOrder (card : CardName) (history : List Entry) : Type 0 where
  -- each batch is a part of the queue without a gap, from its first number on
  pub fronts : (place first : ℕ) (commands : List Command) → IsSentAt card history place first commands
      → commands ≡ take (length commands) (drop first (queue card history))
  -- each command that counts as done was sent
  pub sent : (number : ℕ) → number < (scripts_of card history).done → IsSent card history number
  -- the number of those that are done never fell
  pub rises : (place : ℕ) → (scripts_of card (take place history)).done ≤ (scripts_of card history).done
  -- and is at most the number of those that were queued
  pub within : (scripts_of card history).done ≤ length (queue card history)
