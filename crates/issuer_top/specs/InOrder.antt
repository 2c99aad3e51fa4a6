-- When all is in order for a run over journals.
use Rattle.std.specs.Prelude.{◌≡◌, ℕ, ◌<◌, List, slice_get, Option, Some, None, IsSomeAnd, Ok}
use Rattle.issuer_base.specs.OutsideFaults.{Rose}
use Rattle.issuer_base.specs.declared.entry.Entry.{Entry}
use Rattle.issuer_setup.specs.IssuerSetup.{Setup}
use Rattle.config_read.specs.Configuration.{configured}
use Rattle.shard_book.specs.Loading.{IsOldText}
use Rattle.shard_book.specs.Shards.{IsTextOf}
use Rattle.desk_host.specs.Journals.{old_name, journal_name}
use Rattle.desk_host.specs.SeenStores.{SeenStore}
use Rattle.issuer_top.specs.Seen.{Seen}

-- the bytes of a shard's old journal and of its journal are known, and can be loaded: the old one is the text of a
-- legal history and a torn last line; the journal is a prefix of the text that the old one is migrated to, or the text
-- of a history that is legal since the old one and a torn last line
pub record CanBeLoaded (issuer : Setup) (shard : ℕ) (old_held held : Option (List ℕ)) : Type 0 where
  pub old : List Entry
  pub history : List Entry
  pub old_is : IsOldText issuer shard old_held old
  pub journal_is : IsTextOf issuer shard old held history

-- the stores counted no fault
abbrev pub HaveStood : List SeenStore → Type 0
HaveStood stores = (shard : ℕ) (store : SeenStore) → slice_get stores shard ≡ Some store → 0 < store.faults → ⊥

-- the stores' bytes are observable
abbrev pub AreObservable : List SeenStore → Type 0
AreObservable stores = (shard : ℕ) (store : SeenStore) → slice_get stores shard ≡ Some store → store.bytes ≡ None → ⊥

-- the desk tells of an issuer by this name and of its journals, old and new, by that one; each shard's can be loaded,
-- and no count rose
pub record IsInOrder (config journal : List ℕ) (seen : Seen) : Type 0 where
  pub content : List ℕ
  pub issuer : Setup
  pub config_held : seen.desk.tells config ≡ Some (Some content)
  pub says : configured content ≡ Ok issuer
  pub journals_held : (shard : ℕ) → shard < issuer.shards
      → CanBeLoaded issuer shard (seen.desk.logs (old_name journal shard)) (seen.desk.logs (journal_name journal shard))
  pub desk_stood : Rose seen.desk.faults_before seen.desk.faults_after → ⊥
  pub config_stood : IsSomeAnd seen.config (λ input. 0 < input.faults) → ⊥
  pub requests_stood : IsSomeAnd seen.requests (λ input. 0 < input.faults) → ⊥
  pub olds_stood : HaveStood seen.journals.olds
  pub stores_stood : HaveStood seen.journals.stores
  pub sink_stood : Rose seen.sink.faults_before seen.sink.faults_after → ⊥
