-- The stores of shards that were just loaded are as loading left them.
use Rattle.std.proofs.Common.{◌≡◌, ℕ, List, Some, ap, map}
use Rattle.std.specs.Prelude.{IfSome}
use Rattle.issuer_base.specs.declared.outside.store.Store.{Ghosts}
use Rattle.issuer_setup.specs.IssuerSetup.{Setup}
use Rattle.shard_book.specs.declared.shard.Shard.{Shard}
use Rattle.shard_book.specs.Shards.{store_in}
use Rattle.host_loading.proofs.Loads.{loaded-are}
use Rattle.desk_host.specs.Configuration.{HasSoundParts}
use Rattle.desk_host.specs.Journals.{IsReady}
use Rattle.desk_host.specs.SeenStores.{Logged, journals_seen}
use Rattle.desk_host.proofs.KeptSteps.{begins, keep-journals}
use Rattle.desk_host.proofs.LoadedLaws.{lawful-loaded}
use Rattle.line_serving.specs.Loaded.{AreLoadedFrom}

pub loaded-from : {S : Type 0} {G : Ghosts S} (issuer : Setup) (prefix : List ℕ) (logs : Logged) (olds : List S)
    (loaded : List (Shard S G))
    → IsReady issuer prefix logs olds loaded → HasSoundParts issuer
    → ((store : S) → IfSome (G.disk store) (λ disk. G.bytes store ≡ Some disk.now.bytes))
    → (stores : List S) → stores ≡ map store_in loaded → AreLoadedFrom issuer prefix logs (journals_seen G olds stores)
loaded-from {S} {G} issuer prefix logs olds loaded ready sound told stores stores_are =
    let shards = loaded-are issuer ready.old_stores olds ready.stores loaded ready.opened.stores_count ready.loaded in
    let first = begins issuer prefix logs olds loaded ready in
    record {
      books = first.books;
      kept = keep-journals issuer prefix logs olds loaded loaded ready shards shards told _
          (ap (journals_seen G olds) stores_are) first.books first.has_run.stand first.has_run.leave;
      lawful = lawful-loaded issuer prefix logs olds loaded ready shards sound;
    }
