-- The passes of a host's callers, and the first pass, which makes no calls.
use Rattle.std.specs.Prelude.{◌≡◌, ℕ, List, [], ◌++◌, All}
use Rattle.std.specs.List.{flat_map}
use Rattle.issuer_base.specs.declared.outside.store.Store.{Ghosts}
use Rattle.shared_seats.specs.SeatNames.{IsWhole}
use Rattle.turn_book.specs.Logs.{items_at}
use Rattle.shared_shards.specs.ShardLogs.{faults_of}
use Rattle.shared_shards.specs.ShardSeats.{opening_in}
use Rattle.host_calls.specs.Passes.{claims_of, logs_of, IsFree}
use Rattle.host_calls.specs.declared.host.Host.{Host}
use Rattle.host_calls.specs.declared.pass.Pass.{Pass}
use Rattle.shared_callers.specs.declared.lane.Lane.{Lane}

-- the pass has made no calls
pub record IsUntouched (pass : Pass) : Type 0 where
  pub no_claims : (claims_of pass).claims ≡ []
  pub no_found : (claims_of pass).found ≡ []
  pub no_tops : (claims_of pass).tops ≡ []
  pub no_places : (logs_of pass).mine ≡ []

module _ {S : Type 0} {G : Ghosts S} where
  -- the first pass has made no calls and has seen the opening logs; it and the lanes' passes are free, and they are all
  -- passes of the host
  pub record AreSeated (host : Host S G) (first : Pass) (lanes : List Lane) : Type 0 where
    pub first_free : IsFree host first
    pub untouched : IsUntouched first
    pub opened : (logs_of first).seen ≡ opening_in host.turns
    pub free : All (λ lane. IsFree host lane.pass) lanes
    pub whole : IsWhole ((claims_of first).names ++ flat_map (λ lane. (claims_of lane.pass).names) lanes)

  -- the opening logs have records alone
  abbrev pub IsPlain : Host S G → Type 0
  IsPlain host = (shard : ℕ) → faults_of (items_at (opening_in host.turns) shard) ≡ []
