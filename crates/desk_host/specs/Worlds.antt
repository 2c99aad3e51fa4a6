-- Worlds around an issuer's host: what is sure of each, and that one has the histories of its journals.
use Rattle.std.specs.Prelude.{List}
use Rattle.issuer_base.specs.declared.entry.Entry.{Entry}
use Rattle.issuer_setup.specs.IssuerSetup.{Setup}
use Rattle.world_net.specs.declared.event.Event.{Event}
use Rattle.world_net.specs.WorldState.{WorldState}
use Rattle.world_net.specs.WorldRuns.{IsRun, IsGenuineRun}
use Rattle.world_net.specs.Histories.{HasRun}
use Rattle.world_net.specs.Safety.{IsSafe, RunsInOrder}

-- after whatever events, in a world of the issuer no counter of a card was decided twice and each request has one
-- reply; where its run is genuine, each card ran the first commands of its queue, in order, each once; and there is a
-- world with these histories
pub record HaveSafeWorlds (issuer : Setup) (histories : List (List Entry)) : Type 0 where
  pub each_is_safe : (events : List Event) (world : WorldState) → IsRun issuer events world → IsSafe world
  pub each_runs_in_order : (events : List Event) (world : WorldState) → IsGenuineRun issuer events world
      → RunsInOrder world
  pub some_run : HasRun issuer histories
