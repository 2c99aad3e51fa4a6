-- A fall-back of a world: each shard loses its last records, as when a standby node takes over that hadn't received
-- them.
use Rattle.std.specs.Prelude.{◌≡◌, ◌≤◌, ◌<◌, ℕ, List, [], length, take, map, slice_get, Some, None, Contains}
use Rattle.std.specs.List.{zip}
use Rattle.issuer_base.specs.declared.answer.Reply.{Reply}
use Rattle.issuer_base.specs.declared.entry.Entry.TheVariants.{Decided}
use Rattle.world_net.specs.declared.event.Event.{Event}
use Rattle.world_net.specs.declared.parts.Exchange.{Exchange}
use Rattle.world_net.specs.WorldState.{WorldState, ShardState, shard_at}
use Rattle.world_net.specs.WorldRuns.{IsIssuer, IsGenuineRun}
use Rattle.world_net.specs.Safety.{IsSafe, RunsInOrder}

-- a shard may be truncated to this number of records: it has so many, and no reply was sent to the request of a record
-- that is lost
pub record CanTruncate (sent : List Exchange) (shard : ShardState) (count : ℕ) : Type 0 where
  pub within : count ≤ length shard.history
  pub unsent : (exchange : Exchange) (place : ℕ) (reply : Reply) → Contains sent exchange
      → slice_get shard.history place ≡ Some (Decided exchange.request reply) → place < count

-- a world may fall back to these numbers of records, one for each shard
pub record CanFallBack (world : WorldState) (keep : List ℕ) : Type 0 where
  pub one_each : length keep ≡ length world.shards
  pub each : (shard count : ℕ) → slice_get keep shard ≡ Some count → CanTruncate world.sent (shard_at world shard) count

-- the shard with its first records alone, and none in doubt
abbrev pub truncated : ShardState → ℕ → ShardState
truncated shard count = record { history = take count shard.history; doubt = None }

-- each shard with this number of its records
abbrev pub all_truncated : List ShardState → List ℕ → List ShardState
all_truncated shards keep = map (λ pair. truncated pair.0 pair.1) (zip shards keep)

-- the world after a fall-back: no claim is open, and the cards, their requests and what was sent are as before
abbrev pub fallen_back : List ℕ → WorldState → WorldState
fallen_back keep world = record {
  issuer = world.issuer;
  cards = world.cards;
  made = world.made;
  shards = all_truncated world.shards keep;
  claims = [];
  sent = world.sent;
}

-- the world is the end of a genuine run of its issuer
pub record IsGenuinelyReached (world : WorldState) : Type 0 where
  pub issuer : IsIssuer world.issuer
  pub events : List Event
  pub run : IsGenuineRun world.issuer events world

-- the world is safe, and its cards ran their commands in order if its run was genuine
pub record KeepsLaws (old new : WorldState) : Type 0 where
  pub safe : IsSafe new
  pub in_order : IsGenuinelyReached old → RunsInOrder new
