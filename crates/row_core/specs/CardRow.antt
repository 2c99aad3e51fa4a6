-- What a row holds of a card, and the history that it stands for.
use Rattle.std.specs.Prelude.{◌≡◌, ◌≤◌, ℕ, Bool, List, length, Contains, Option, Some}
use Rattle.issuer_base.specs.declared.answer.Method.{Method}
use Rattle.issuer_base.specs.declared.entry.Entry.{Entry}
use Rattle.issuer_base.specs.declared.limits.TheConstants.{WINDOW}
use Rattle.card_history.specs.declared.decision.Decision.{Decision}
use Rattle.card_history.specs.Records.{decided, greatest_atc, IsBelow, status_of}
use Rattle.card_history.specs.Scripts.{Scripts, waiting, scripts_of}
use Rattle.cvr_settle.specs.declared.settlement.Flight.{Flight}
use Rattle.reply_keep.specs.ReplySlots.{slot_of, in_slot}
use Rattle.script_queue.specs.CommandQueue.{CommandQueue}
use Rattle.issuer_setup.specs.declared.card.CardInfo.{CardInfo}
use Rattle.issuer_setup.specs.CardList.{name_of}

-- what a row holds of a card's issuer script commands: those queued, how many are done, the batch in flight, and
-- whether they are halted
pub record KeptScripts : Type 0 where
  pub commands : CommandQueue
  pub done : ℕ
  pub flight : Option Flight
  pub halted : Bool

-- what a row holds of these scripts
abbrev pub kept_of : Scripts → KeptScripts
kept_of scripts =
    record { commands = waiting scripts; done = scripts.done; flight = scripts.flight; halted = scripts.halted }

-- what a row holds: the card's ARPC method, the greatest decided ATC, the card's status, its decisions with their
-- replies in one slot for each residue of the ATC modulo 256, and its issuer script commands
pub record CardRow : Type 0 where
  pub method : Method
  pub hi : Option ℕ
  pub status : ℕ
  pub slots : List (Option Decision)
  pub scripts : KeptScripts

-- a row holds these scripts, of which no more commands are done than were queued
pub record KeepsScripts (row : CardRow) (scripts : Scripts) : Type 0 where
  pub hi_is : row.hi ≡ scripts.hi
  pub kept_is : row.scripts ≡ kept_of scripts
  pub within : scripts.done ≤ length scripts.queue

-- the slots hold the window of these decisions: there is a slot for each ATC of the window; a decision whose ATC isn't
-- below the window is in its ATC's slot; and what is in a slot is one of the decisions, in its ATC's slot
pub record KeepsWindow (slots : List (Option Decision)) (decisions : List Decision) : Type 0 where
  pub one_each : length slots ≡ WINDOW
  pub kept : (decision : Decision) → Contains decisions decision
      → (IsBelow (greatest_atc decisions) decision.request.atc → ⊥)
      → in_slot (slot_of decision.request.atc) slots ≡ Some decision
  pub decided : (slot : ℕ) (decision : Decision) → in_slot slot slots ≡ Some decision
      → Contains decisions decision × (slot_of decision.request.atc ≡ slot)

-- a row stands for a shard's history if each of its parts is the card's in that history
pub record StandsFor (card : CardInfo) (row : CardRow) (history : List Entry) : Type 0 where
  pub method_is : row.method ≡ card.method
  pub hi_is : row.hi ≡ greatest_atc (decided (name_of card) history)
  pub status_is : row.status ≡ status_of (name_of card) history
  pub window_is : KeepsWindow row.slots (decided (name_of card) history)
  pub scripts_are : row.scripts ≡ kept_of (scripts_of (name_of card) history)
