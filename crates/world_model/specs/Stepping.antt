-- The effect of a call on a world: the parts that its code holds, and the call's result.
use Rattle.std.specs.Prelude.{◌≡◌, ℕ, ◌%◌, Bool, true, false, List, slice_get, slice_index_or, Some, Result, Ok, Err}
use Rattle.issuer_base.specs.declared.request.Request.{Request}
use Rattle.issuer_setup.specs.declared.card.CardInfo.{CardInfo}
use Rattle.issuer_setup.specs.IssuerSetup.{Setup}
use Rattle.row_core.specs.CardRow.{CardRow, StandsFor}
use Rattle.row_core.specs.Replying.{reply_to}
use Rattle.world_model.specs.declared.net.Net.{Net}
use Rattle.world_net.specs.WorldState.{WorldState, ShardState, no_shard, home_of, history_for, claim_of}
use Rattle.world_net.specs.WorldSteps.{written}
use Rattle.world_net.specs.declared.parts.Exchange.{Exchange}
use Rattle.world_net.specs.declared.parts.OpenClaim.{OpenClaim}
use Rattle.world_net.specs.WorldRuns.{IsIssuer, IsRun}
use Rattle.world_net.specs.declared.event.Event.{Event}
use Rattle.world_net.specs.declared.event.Event.TheVariants.{Write}

-- the world of these parts
abbrev pub world_of : Net → WorldState
world_of net = record {
  issuer = net.issuer;
  cards = net.cards.items;
  made = net.made.items;
  shards = net.shards.items;
  claims = net.claims.items;
  sent = net.sent.items;
}

-- the row of each card stands for the history of the card's shard
pub record RowsStand (issuer : Setup) (rows : List CardRow) (shards : List ShardState) : Type 0 where
  pub each : (number : ℕ) (info : CardInfo) → slice_get issuer.cards number ≡ Some info
      → (row : CardRow) × (slice_get rows number ≡ Some row)
      × StandsFor info row (slice_index_or shards (number % issuer.shards) no_shard).history

-- the rows of these parts stand for the histories of their cards' shards
abbrev pub Stands : Net → Type 0
Stands net = RowsStand net.issuer net.rows.items net.shards.items

-- the world is the end of a run of its issuer
pub record IsReached (world : WorldState) : Type 0 where
  pub issuer : IsIssuer world.issuer
  pub events : List Event
  pub run : IsRun world.issuer events world

-- the parts are the end of a run, and their rows stand for the histories
pub record IsHeld (net : Net) : Type 0 where
  pub reached : IsReached (world_of net)
  pub rows : Stands net

-- true if the event was allowed, and then it is done; else nothing changes
abbrev pub IsTaken : {E : Type 0} → Type 0 → Type 0 → WorldState → WorldState → Result Bool E → Type 0
IsTaken Allowed Done before after (Ok true) = Allowed × Done
IsTaken Allowed Done before after (Ok false) = (Allowed → ⊥) × (after ≡ before)
IsTaken Allowed Done before after (Err fault) = after ≡ before

-- the issuer's own decision of a request, by its table, after the history of its card's shard
abbrev pub own_decision : WorldState → Request → Exchange
own_decision world request = record {
  request = request;
  reply = reply_to world.issuer
      (history_for world request) request;
}

-- the decision that was written for the caller is the issuer's own, of the request that the caller claimed
pub record WritesOwn (world : WorldState) (caller : ℕ) (stored : Bool) (after : WorldState) : Type 0 where
  pub claim : OpenClaim
  pub claim_is : claim_of caller world.claims ≡ Some claim
  pub after_is : after ≡ written stored world caller (home_of world claim.request) (own_decision world claim.request)

-- if the event is a write, it writes the issuer's own decision
abbrev pub IsOwn : WorldState → Event → WorldState → Type 0
IsOwn world (Write caller stored) after = WritesOwn world caller stored after
IsOwn world _ after = Unit {0}

-- if the call performed the event, this holds
abbrev pub IfDone : {E : Type 0} → Type 0 → Result Bool E → Type 0
IfDone Done (Ok true) = Done
IfDone Done _ = Unit {0}
