-- Legal histories, and runs that have them.
use Rattle.std.specs.Prelude.{◌≡◌, ◌≤◌, ℕ, List, [], length, slice_index_or, All}
use Rattle.issuer_base.specs.declared.entry.Entry.{Entry}
use Rattle.issuer_base.specs.declared.limits.TheConstants.{MAX_CHIP_BYTES}
use Rattle.card_history.specs.LegalRecords.{IsLegalHistory}
use Rattle.issuer_setup.specs.IssuerSetup.{Setup}
use Rattle.journal_rec.specs.Record.{IsEntry}
use Rattle.shard_book.specs.Grounds.{grounds_of}
use Rattle.world_net.specs.declared.event.Event.{Event}
use Rattle.world_net.specs.declared.event.Event.TheVariants.{Claim}
use Rattle.world_net.specs.WorldState.{WorldState, histories_of}
use Rattle.world_net.specs.WorldRuns.{IsRun}

-- each record is a value of its type: a law over all histories ranges over lists of any length and numbers of any size
abbrev pub AreHeld : List (List Entry) → Type 0
AreHeld histories = (shard : ℕ) → All IsEntry (slice_index_or histories shard [])

-- one legal history for each of the issuer's shards
pub record AreLegal (issuer : Setup) (histories : List (List Entry)) : Type 0 where
  pub count : length histories ≡ issuer.shards
  pub each : (shard : ℕ) → IsLegalHistory (grounds_of issuer) shard (slice_index_or histories shard [])

-- a claim has no more chip data than an event holds
abbrev pub HasRoom : Event → Type 0
HasRoom (Claim caller bytes) = length bytes.items ≤ MAX_CHIP_BYTES
HasRoom _ = Unit {0}

-- a run of the issuer whose end has these histories
pub record HasRun (issuer : Setup) (histories : List (List Entry)) : Type 0 where
  pub events : List Event
  pub room : All HasRoom events
  pub world : WorldState
  pub run : IsRun issuer events world
  pub histories_are : histories_of world ≡ histories
