-- Journals that were only loaded.
use Rattle.std.specs.Prelude.{ℕ, List}
use Rattle.issuer_setup.specs.IssuerSetup.{Setup}
use Rattle.host_loading.specs.Books.{ShardBook}
use Rattle.desk_host.specs.Kept.{KeepJournals}
use Rattle.desk_host.specs.Lawful.{IsLawful}
use Rattle.desk_host.specs.SeenStores.{Logged, SeenJournals}

-- the journals are those that the desk had under their names, as loading left them: they are kept by the books that
-- they were loaded to, and no record was added
pub record AreLoadedFrom (issuer : Setup) (prefix : List ℕ) (logs : Logged) (journals : SeenJournals) : Type 0 where
  pub books : List ShardBook
  pub kept : KeepJournals issuer prefix logs journals books books
  pub lawful : IsLawful issuer books books
