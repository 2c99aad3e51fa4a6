-- The card's number and the keys that the check of a line found and derived.
use Rattle.std.specs.Prelude.{◌≡◌, ◌≤◌, ℕ, Some, length, IsTrue}
use Rattle.issuer_base.specs.declared.limits.TheConstants.{MAX_STATUS}
use Rattle.issuer_base.specs.ScriptCommand.{is_command}
use Rattle.issuer_base.specs.declared.entry.Entry.{Entry}
use Rattle.issuer_base.specs.declared.entry.Entry.TheVariants.{Queued, Status as IsStatus}
use Rattle.card_history.specs.declared.decision.Asked.{Asked}
use Rattle.card_history.specs.declared.decision.Asked.TheVariants.{Decide as AsksDecision, Queue as AsksQueue, Status as AsksStatus}
use Rattle.issuer_base.specs.CardNames.{CardName, named}
use Rattle.card_history.specs.Records.{card_of, card_in}
use Rattle.key_derive.specs.SessionKey.{session_of}
use Rattle.issuer_setup.specs.CardList.{number_of, AreCards}
use Rattle.issuer_setup.specs.IssuerSetup.{Setup, keys_of}
use Rattle.line_checks.specs.declared.checked.CheckedLine.{CheckedLine}
use Rattle.line_checks.specs.declared.checked.CheckedLine.TheVariants.{Decide, Order}
use Rattle.line_checks.specs.declared.checked.CheckedOrder.{CheckedOrder}
use Rattle.line_checks.specs.declared.checked.CheckedOrder.TheVariants.{Command, Status}
use Rattle.line_checks.specs.declared.checked.CheckedRequest.{CheckedRequest}
use Rattle.line_checks.specs.declared.checked.CheckedCommand.{CheckedCommand}
use Rattle.line_checks.specs.declared.checked.CheckedStatus.{CheckedStatus}

-- what an order asks
abbrev pub order_asked : CheckedOrder → Asked
order_asked (Command found) = AsksQueue found.pan found.psn found.command
order_asked (Status found) = AsksStatus found.pan found.psn found.status

-- what the line asks
abbrev pub asked_of : CheckedLine → Asked
asked_of (Decide found) = AsksDecision found.request
asked_of (Order found) = order_asked found

-- the record that an order asks for
abbrev pub record_of : CheckedOrder → Entry
record_of (Command found) = Queued found.pan found.psn found.command
record_of (Status found) = IsStatus found.pan found.psn found.status

-- the card that an order is for
abbrev pub card_of_order : CheckedOrder → CardName
card_of_order order = card_in (record_of order)

-- and the card's number
abbrev pub number_of_order : CheckedOrder → ℕ
number_of_order (Command found) = found.card
number_of_order (Status found) = found.card

-- the number is that of the issuer's card with this name
pub record IsCardAtHand (issuer : Setup) (name : CardName) (number : ℕ) : Type 0 where
  pub valid : AreCards issuer.cards
  pub number_is : number_of name issuer.cards ≡ Some number

-- these are the request's card, the card's master keys from the request's key set, and their session key of the ATC:
-- EMV 4.3 Book 2, Annex A1.3.1; and the request's cryptogram has eight bytes, as the one that the keys give
pub record IsRequestAtHand (issuer : Setup) (found : CheckedRequest) : Type 0 where
  pub card_is : IsCardAtHand issuer (card_of found.request) found.card
  pub keys_are : keys_of issuer found.card found.request ≡ Some found.keys
  pub session_is : found.session ≡ session_of found.keys found.request.atc
  pub eight : length found.request.ac ≡ 8

-- the card is known, and the command is one that the host sends
pub record IsCommandAtHand (issuer : Setup) (found : CheckedCommand) : Type 0 where
  pub card_is : IsCardAtHand issuer (named found.pan found.psn) found.card
  pub form_is : IsTrue (is_command found.command)

-- the card is known, and the status is one that a card can have
pub record IsStatusAtHand (issuer : Setup) (found : CheckedStatus) : Type 0 where
  pub card_is : IsCardAtHand issuer (named found.pan found.psn) found.card
  pub within : found.status ≤ MAX_STATUS

-- the order's card is known, and what the order asks may be recorded
abbrev pub IsOrderAtHand : Setup → CheckedOrder → Type 0
IsOrderAtHand issuer (Command found) = IsCommandAtHand issuer found
IsOrderAtHand issuer (Status found) = IsStatusAtHand issuer found

-- what a line asks comes with its card's number, and a request also with its keys
abbrev pub IsAtHand : Setup → CheckedLine → Type 0
IsAtHand issuer (Decide found) = IsRequestAtHand issuer found
IsAtHand issuer (Order found) = IsOrderAtHand issuer found
