-- The state of a world: an issuer with the shards of its host, the issuer's cards, and what passed between them.
use Rattle.std.specs.Prelude.{ℕ, ◌%◌, not, ◌==◌, ◌++◌, List, [], ◌∷◌, map, filter, slice_get, slice_set, slice_index_or, Option, None}
use Rattle.std.specs.List.{find}
use Rattle.issuer_base.specs.declared.request.Request.{Request}
use Rattle.issuer_base.specs.declared.entry.Entry.{Entry}
use Rattle.card_history.specs.Records.{card_of}
use Rattle.issuer_setup.specs.IssuerSetup.{Setup, shard_of}
use Rattle.card_model.specs.Application.{CardState}
use Rattle.world_net.specs.declared.parts.MadeRequest.{MadeRequest}
use Rattle.world_net.specs.declared.parts.OpenClaim.{OpenClaim}
use Rattle.world_net.specs.declared.parts.Exchange.{Exchange}

-- a shard of the host: its records, and the decision that was written last, if it is in doubt whether the store has it
pub record ShardState : Type 0 where
  pub history : List Entry
  pub doubt : Option Exchange

-- a world: the issuer, its cards in the order of their numbers, the requests that they made, the shards, the callers'
-- open claims, and the replies that were ever sent, each with its request
pub record WorldState : Type 0 where
  pub issuer : Setup
  pub cards : List CardState
  pub made : List MadeRequest
  pub shards : List ShardState
  pub claims : List OpenClaim
  pub sent : List Exchange

-- a shard without records
abbrev pub no_shard : ShardState
no_shard = record { history = []; doubt = None }

-- the shard with this number
abbrev pub shard_at : WorldState → ℕ → ShardState
shard_at world shard = slice_index_or world.shards shard no_shard

-- the history of each shard
abbrev pub histories_of : WorldState → List (List Entry)
histories_of world = map (λ shard. shard.history) world.shards

-- the record at this index of this shard, if there is one
abbrev pub record_in : WorldState → ℕ → ℕ → Option Entry
record_in world shard place = slice_get (shard_at world shard).history place

-- the number of the shard of a request's card
abbrev pub home_of : WorldState → Request → ℕ
home_of world request = shard_of world.issuer (card_of request)

-- the history of the shard of a request's card
abbrev pub history_for : WorldState → Request → List Entry
history_for world request = (shard_at world (home_of world request)).history

-- the history of the shard of the card with this number
abbrev pub history_at : WorldState → ℕ → List Entry
history_at world number = (shard_at world (number % world.issuer.shards)).history

-- the caller's open claim, or none
abbrev pub claim_of : ℕ → List OpenClaim → Option OpenClaim
claim_of caller claims = find (λ claim. claim.caller == caller) claims

-- the open claims of the other callers
abbrev pub without : ℕ → List OpenClaim → List OpenClaim
without caller claims = filter (λ claim. not (claim.caller == caller)) claims

-- the world with this shard instead of the one with this number
abbrev pub with_shard : WorldState → ℕ → ShardState → WorldState
with_shard world number shard = record world { shards = slice_set world.shards number shard }

-- the world with one more record of a shard: a decision in doubt there is dropped
abbrev pub with_record : WorldState → ℕ → Entry → WorldState
with_record world number entry =
    with_shard world number (record { history = (shard_at world number).history ++ entry ∷ []; doubt = None })

-- the world with this decision in doubt, or none, in a shard
abbrev pub with_doubt : WorldState → ℕ → Option Exchange → WorldState
with_doubt world number doubt = with_shard world number
    (record { history = (shard_at world number).history; doubt = doubt })

-- the world with this card instead of the one with this number
abbrev pub with_card : WorldState → ℕ → CardState → WorldState
with_card world number card = record world { cards = slice_set world.cards number card }
