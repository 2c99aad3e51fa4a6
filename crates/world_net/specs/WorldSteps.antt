-- The effect of an event on a world that allows it.
use Rattle.std.specs.Prelude.{◌≡◌, ℕ, ◌%◌, Bool, true, false, is_some, if◌then◌else◌, List, [], ◌∷◌, ◌++◌, slice_get, position, Option, Some, None, IsTrue}
use Rattle.std.specs.List.{list_all}
use Rattle.issuer_base.specs.declared.command.Command.{Command}
use Rattle.issuer_base.specs.declared.request.Request.{Request}
use Rattle.issuer_base.specs.declared.answer.Reply.{Reply}
use Rattle.issuer_base.specs.declared.entry.Entry.TheVariants.{Decided, Queued as IsQueued, Status as IsStatus}
use Rattle.issuer_base.specs.ChipData.{is_bcd}
use Rattle.card_history.specs.LegalRecords.{IsLegalDecision}
use Rattle.card_model.specs.declared.terminal.Terminal.{Terminal}
use Rattle.card_model.specs.Application.{CardState}
use Rattle.card_model.specs.CardSteps.{CardStep, Tap as IsTap, Authenticate as IsAuthenticate, Run as IsRun}
use Rattle.shard_book.specs.Grounds.{grounds_of}
use Rattle.world_net.specs.declared.event.Event.{Event}
use Rattle.world_net.specs.declared.event.Event.TheVariants.{Tap, Claim, Release, Write, Send, Authenticate, Run, Queue, Status, Restart}
use Rattle.world_net.specs.declared.parts.OpenClaim.{OpenClaim}
use Rattle.world_net.specs.declared.parts.Exchange.{Exchange}
use Rattle.world_net.specs.WorldState.{WorldState, ShardState, shard_at, home_of, history_for, claim_of, without, with_record, with_doubt, with_card}
use Rattle.world_net.specs.Allowed.{CanClaim, CanRelease, CanSend, CanQueue, CanSet}

-- a card is tapped, and the request that it makes is added to those that were made
pub record Taps (world : WorldState) (number : ℕ) (terminal : Terminal) (after : WorldState) : Type 0 where
  pub card : CardState
  pub moved : CardState
  pub request : Request
  pub card_is : slice_get world.cards number ≡ Some card
  pub decimal : IsTrue (list_all is_bcd terminal.amount)
  pub step : CardStep card (IsTap terminal (Some request)) moved
  pub after_is : after ≡ record (with_card world number moved)
      { made = world.made ++ record { card = number; request = request } ∷ [] }

-- a caller claims the counter of a request
pub record Claims (world : WorldState) (caller : ℕ) (bytes : List ℕ) (after : WorldState) : Type 0 where
  pub can : CanClaim world caller bytes
  pub after_is : after ≡ record world {
    claims = world.claims
        ++ record { caller = caller; request = can.request } ∷ [];
  }

-- a caller releases its claim
pub record Releases (world : WorldState) (caller : ℕ) (after : WorldState) : Type 0 where
  pub can : CanRelease world caller
  pub after_is : after ≡ record world { claims = without caller world.claims }

-- the world after a caller's write of a decision: if it was stored, it is recorded and the claim ends; else it is in
-- doubt and the claim stays
abbrev pub written : Bool → WorldState → ℕ → ℕ → Exchange → WorldState
written true world caller shard exchange =
    record (with_record world shard (Decided exchange.request exchange.reply)) { claims = without caller world.claims }
written false world caller shard exchange = with_doubt world shard (Some exchange)

-- a caller writes a decision of the request that it claimed; its response code, approval and status update are any that
-- make it legal
pub record Writes (world : WorldState) (caller : ℕ) (stored : Bool) (after : WorldState) : Type 0 where
  pub claim : OpenClaim
  pub reply : Reply
  pub claim_is : claim_of caller world.claims ≡ Some claim
  pub legal : IsLegalDecision (grounds_of world.issuer) (home_of world claim.request)
      (history_for world claim.request) claim.request reply
  pub after_is : after ≡ written stored world caller (home_of world claim.request)
      (record { request = claim.request; reply = reply })

-- the reply of a decided record is sent
pub record Sends (world : WorldState) (shard place : ℕ) (after : WorldState) : Type 0 where
  pub can : CanSend world shard place
  pub after_is : after ≡ record world { sent = world.sent ++ record { request = can.request; reply = can.reply } ∷ [] }

-- a value of tag 91 and a response code reach a card, whether it accepts them or not
pub record Authenticates (world : WorldState) (number : ℕ) (value arc : List ℕ) (after : WorldState) : Type 0 where
  pub card : CardState
  pub moved : CardState
  pub right : Bool
  pub card_is : slice_get world.cards number ≡ Some card
  pub step : CardStep card (IsAuthenticate value arc right) moved
  pub after_is : after ≡ with_card world number moved

-- a script command reaches a card, whether it runs it or not
pub record Runs (world : WorldState) (number : ℕ) (bytes : List ℕ) (after : WorldState) : Type 0 where
  pub card : CardState
  pub moved : CardState
  pub right : Bool
  pub card_is : slice_get world.cards number ≡ Some card
  pub step : CardStep card (IsRun bytes right) moved
  pub after_is : after ≡ with_card world number moved

-- a command is queued for a card
pub record Queues (world : WorldState) (number : ℕ) (command : Command) (after : WorldState) : Type 0 where
  pub can : CanQueue world number command
  pub after_is : after ≡ with_record world (number % world.issuer.shards) (IsQueued can.card.pan can.card.psn command)

-- the status of a card is set
pub record Sets (world : WorldState) (number status : ℕ) (after : WorldState) : Type 0 where
  pub can : CanSet world number status
  pub after_is : after ≡ with_record world (number % world.issuer.shards) (IsStatus can.card.pan can.card.psn status)

-- the lowest shard with a decision in doubt, or none
abbrev pub first_doubtful : List ShardState → Option ℕ
first_doubtful shards = position (λ shard. is_some shard.doubt) shards

-- the shard's decision in doubt is recorded if its store kept it, and dropped if it didn't
abbrev pub settled_at : Bool → WorldState → ℕ → Option Exchange → WorldState
settled_at kept world shard None = world
settled_at kept world shard (Some exchange) =
    if kept then with_record world shard (Decided exchange.request exchange.reply) else with_doubt world shard None

-- the same for the shard with this number, if there is one
abbrev pub settled_in : Bool → WorldState → Option ℕ → WorldState
settled_in kept world None = world
settled_in kept world (Some shard) = settled_at kept world shard (shard_at world shard).doubt

-- the world after a restart: the lowest shard with a decision in doubt is settled, and all claims end. If several
-- shards have one, a restart is several of these events
abbrev pub restarted : Bool → WorldState → WorldState
restarted kept world = record (settled_in kept world (first_doubtful world.shards)) { claims = [] }

-- a world allows this event, which turns it into the second world
abbrev pub IsStep : WorldState → Event → WorldState → Type 0
IsStep world (Tap number terminal) after = Taps world number terminal after
IsStep world (Claim caller bytes) after = Claims world caller bytes.items after
IsStep world (Release caller) after = Releases world caller after
IsStep world (Write caller stored) after = Writes world caller stored after
IsStep world (Send shard place) after = Sends world shard place after
IsStep world (Authenticate number value arc) after = Authenticates world number value.items arc after
IsStep world (Run number bytes) after = Runs world number bytes.items after
IsStep world (Queue number command) after = Queues world number command after
IsStep world (Status number status) after = Sets world number status after
IsStep world (Restart kept) after = after ≡ restarted kept world
