-- Which events a world allows.
use Rattle.std.specs.Prelude.{◌≡◌, ◌≢◌, ◌<◌, ℕ, ◌%◌, List, length, slice_get, Some, None, Ok, All, IsTrue}
use Rattle.std.specs.List.{list_all}
use Rattle.issuer_base.specs.declared.command.Command.{Command}
use Rattle.issuer_base.specs.declared.request.Request.{Request}
use Rattle.issuer_base.specs.declared.answer.Reply.{Reply}
use Rattle.issuer_base.specs.declared.entry.Entry.TheVariants.{Decided}
use Rattle.issuer_base.specs.ChipData.{is_bcd}
use Rattle.card_history.specs.declared.decision.Asked.TheVariants.{Decide}
use Rattle.card_history.specs.LegalRecords.{IsLegalCommand, IsLegalStatus}
use Rattle.card_history.specs.Records.{card_of}
use Rattle.card_history.specs.Turns.{IsUnused, decided_for}
use Rattle.issuer_setup.specs.declared.card.CardInfo.{CardInfo}
use Rattle.issuer_setup.specs.CardList.{name_of}
use Rattle.chip_request.specs.Reading.{request_of}
use Rattle.line_checks.specs.Reading.{checked}
use Rattle.card_model.specs.declared.card.TheConstants.{LAST_COUNTER}
use Rattle.card_model.specs.declared.terminal.Terminal.{Terminal}
use Rattle.card_model.specs.Application.{CardState}
use Rattle.shard_book.specs.Grounds.{grounds_of}
use Rattle.world_net.specs.declared.event.Event.{Event}
use Rattle.world_net.specs.declared.event.Event.TheVariants.{Tap, Claim, Release, Write, Send, Authenticate, Run, Queue, Status, Restart}
use Rattle.world_net.specs.declared.parts.OpenClaim.{OpenClaim}
use Rattle.world_net.specs.WorldState.{WorldState, shard_at, record_in, history_for, claim_of}

-- a card that isn't at its last counter may be tapped, if the amount is decimal
pub record CanTap (world : WorldState) (number : ℕ) (terminal : Terminal) : Type 0 where
  pub card : CardState
  pub card_is : slice_get world.cards number ≡ Some card
  pub decimal : IsTrue (list_all is_bcd terminal.amount)
  pub more : card.atc ≢ LAST_COUNTER

-- the card and counter of the request are neither recorded nor claimed
pub record IsFree (world : WorldState) (request : Request) : Type 0 where
  pub unrecorded : All (λ decision. decision.request.atc ≢ request.atc)
      (decided_for request (history_for world request))
  pub unclaimed : All (λ claim. card_of claim.request ≡ card_of request → claim.request.atc ≢ request.atc) world.claims

-- a caller without a claim may claim the counter of the request in these bytes, if the issuer would decide the request
-- and its counter is free
pub record CanClaim (world : WorldState) (caller : ℕ) (bytes : List ℕ) : Type 0 where
  pub request : Request
  pub idle : claim_of caller world.claims ≡ None
  pub read : request_of bytes ≡ Ok request
  pub checked : checked world.issuer request ≡ Ok (Decide request)
  pub free : IsFree world request

-- a caller that has a claim may release it
pub record CanRelease (world : WorldState) (caller : ℕ) : Type 0 where
  pub claim : OpenClaim
  pub claim_is : claim_of caller world.claims ≡ Some claim

-- a caller may write the decision of the request that it claimed, if its counter is in the window and unused
pub record CanWrite (world : WorldState) (caller : ℕ) : Type 0 where
  pub claim : OpenClaim
  pub claim_is : claim_of caller world.claims ≡ Some claim
  pub unused : IsUnused (decided_for claim.request (history_for world claim.request)) claim.request

-- the reply of a decided record may be sent
pub record CanSend (world : WorldState) (shard place : ℕ) : Type 0 where
  pub request : Request
  pub reply : Reply
  pub record_is : record_in world shard place ≡ Some (Decided request reply)

-- a command may be queued for a card if its record is legal after the history of the card's shard
pub record CanQueue (world : WorldState) (number : ℕ) (command : Command) : Type 0 where
  pub card : CardInfo
  pub card_is : slice_get world.issuer.cards number ≡ Some card
  pub legal : IsLegalCommand (grounds_of world.issuer) (number % world.issuer.shards)
      (shard_at world (number % world.issuer.shards)).history (name_of card) command

-- the status of a card may be set if its record is legal
pub record CanSet (world : WorldState) (number status : ℕ) : Type 0 where
  pub card : CardInfo
  pub card_is : slice_get world.issuer.cards number ≡ Some card
  pub legal : IsLegalStatus (grounds_of world.issuer) (number % world.issuer.shards) (name_of card) status

-- the world allows this event
abbrev pub IsAllowed : WorldState → Event → Type 0
IsAllowed world (Tap number terminal) = CanTap world number terminal
IsAllowed world (Claim caller bytes) = CanClaim world caller bytes.items
IsAllowed world (Release caller) = CanRelease world caller
IsAllowed world (Write caller stored) = CanWrite world caller
IsAllowed world (Send shard place) = CanSend world shard place
IsAllowed world (Authenticate number value arc) = number < length world.cards
IsAllowed world (Run number bytes) = number < length world.cards
IsAllowed world (Queue number command) = CanQueue world number command
IsAllowed world (Status number status) = CanSet world number status
IsAllowed world (Restart kept) = Unit {0}
