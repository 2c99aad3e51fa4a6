-- What callers share once a host was loaded, and its first pass.
use Rattle.std.specs.Prelude.{◌≡◌, List, length}
use Rattle.issuer_base.specs.declared.outside.store.Store.{Ghosts}
use Rattle.issuer_setup.specs.IssuerSetup.{Setup}
use Rattle.shared_seats.specs.SeatNames.{first_names}
use Rattle.claim_words.specs.ClaimViews.{newcomer}
use Rattle.claim_words.specs.Seats.{cards_of, IsOf as IsSeatOfWords}
use Rattle.turn_book.specs.TurnViews.{first_view}
use Rattle.shared_shards.specs.ShardSeats.{opening_in, AreTurnsOf, IsSeatOf}
use Rattle.shared_laws.specs.OpeningLogs.{AreOpenedFrom, AreRecordedIn}
use Rattle.host_calls.specs.Passes.{claims_of, logs_of, IsFree}
use Rattle.host_calls.specs.declared.host.Host.{Host}
use Rattle.host_calls.specs.declared.load.Shared.{Shared}
use Rattle.host_calls.specs.declared.pass.Pass.{Pass}

module _ {S : Type 0} {G : Ghosts S} where
  -- the first pass of a host is free: it has no claims, and has seen just the opening logs
  pub record IsFirstPass (host : Host S G) (pass : Pass) : Type 0 where
    pub free : IsFree host pass
    pub claims_are : claims_of pass ≡ newcomer first_names
    pub logs_are : logs_of pass ≡ first_view (opening_in host.turns)

  -- the claims and the turns are those of the shards that were loaded from these old stores, which were read then, and
  -- these stores, and the pass is the first one
  pub record IsShared (issuer : Setup) (olds read stores : List S) (shared : Shared S G) : Type 0 where
    pub opening : AreOpenedFrom G.bytes G.disk G.faults issuer olds read stores (opening_in shared.turns)
    pub turns_are : AreTurnsOf issuer shared.turns
    pub turning : IsSeatOf shared.turns shared.pass.turns
    pub cards_are : cards_of shared.claims ≡ length issuer.cards
    pub claiming : IsSeatOfWords shared.pass.claims shared.claims
    pub recorded : AreRecordedIn issuer (opening_in shared.turns) shared.claims
    pub claims_are : claims_of shared.pass ≡ newcomer first_names
    pub logs_are : logs_of shared.pass ≡ first_view (opening_in shared.turns)
