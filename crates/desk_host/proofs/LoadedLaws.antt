-- What is sure of a host that was just loaded.
use Rattle.std.proofs.Common.{List, [], ◌∙◌, refl, ℕ}
use Rattle.issuer_base.specs.declared.outside.store.Store.{Ghosts}
use Rattle.issuer_setup.specs.IssuerSetup.{Setup}
use Rattle.shard_book.specs.declared.shard.Shard.{Shard}
use Rattle.shard_book.proofs.OwnDecisions.{legal-then}
use Rattle.host_loading.specs.Hosts.{AreShards}
use Rattle.one_caller.proofs.OneRun.{run-one_history}
use Rattle.one_caller.proofs.Running.{begins-legal}
use Rattle.desk_host.specs.SeenStores.{Logged}
use Rattle.desk_host.specs.Configuration.{HasSoundParts}
use Rattle.desk_host.specs.Journals.{IsReady}
use Rattle.desk_host.specs.Lawful.{IsLawful}
use Rattle.desk_host.proofs.HostRuns.{recorded}
use Rattle.desk_host.proofs.KeptSteps.{begins}
use Rattle.desk_host.proofs.WorldLaws.{is-lawful}

module _ {S : Type 0} {G : Ghosts S} where
  -- the run is lawful where no line was answered
  pub lawful-loaded : (issuer : Setup) (prefix : List ℕ) (logs : Logged) (olds : List S) (loaded : List (Shard S G))
      (ready : IsReady issuer prefix logs olds loaded)
      (shards : AreShards issuer loaded) → HasSoundParts issuer
      → IsLawful issuer (begins issuer prefix logs olds loaded ready).books
      (begins issuer prefix logs olds loaded ready).books
  lawful-loaded issuer prefix logs olds loaded ready shards sound =
      let begun = begins issuer prefix logs olds loaded ready in
      let legal = begins-legal issuer ready.old_stores olds ready.stores loaded ready.loaded begun in
      let records = recorded begun.has_run.stand in
      let one = run-one_history issuer (legal-then issuer) begun.books begun.books [] [] legal records
      refl in
      is-lawful issuer begun.books begun.books sound (begun.has_run.stand.count_is ∙ shards.count_is) refl one.goes_on
      records
