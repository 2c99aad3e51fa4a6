-- The journals of an issuer's shards at a desk: their names, and what is opened and loaded under them.
use Rattle.std.specs.Prelude.{◌≡◌, ℕ, ◌+◌, ◌/◌, ◌%◌, List, [], ◌∷◌, ◌++◌, codes, length, slice_get, Option, Some, IfSome}
use Rattle.issuer_base.specs.declared.outside.Desk.{Ghosts as Desk}
use Rattle.issuer_base.specs.declared.outside.store.Store.{Ghosts}
use Rattle.issuer_setup.specs.IssuerSetup.{Setup}
use Rattle.shard_book.specs.declared.shard.Shard.{Shard}
use Rattle.one_caller.specs.declared.solo.Solo.{Solo}
use Rattle.host_loading.specs.Loading.{AreLoaded, AreOnlyRead}
use Rattle.desk_host.specs.SeenStores.{Logged}

-- the name of a shard's file: the name that the words give, a dot, the shard's number in two decimal digits, and an
-- ending
abbrev pub file_name : List ℕ → List ℕ → ℕ → List ℕ
file_name ending prefix shard = prefix ++ 46 ∷ (48 + shard / 10) ∷ (48 + shard % 10) ∷ ending

-- the name of a shard's old journal, of version 1
abbrev pub old_name : List ℕ → ℕ → List ℕ
old_name prefix shard = file_name [] prefix shard

-- the name of its journal: that of the old one, followed by .v2
abbrev pub journal_name : List ℕ → ℕ → List ℕ
journal_name prefix shard = file_name (codes ".v2") prefix shard

-- the store has just been opened, and its bytes are those that the desk told of its name
pub record IsOpened {S : Type 0} (G : Ghosts S) (held : Option (List ℕ)) (store : S) : Type 0 where
  pub bytes_are : IfSome held (λ told. G.bytes store ≡ Some told)
  pub untouched : IfSome (G.disk store) (λ disk. disk.past ≡ [])
  pub new : G.faults store ≡ 0

-- the desk tells of its inputs what it told, and so of its journals but for the one under this name
pub record IsSameElsewhere {D I J : Type 0} (desk : Desk D I J) (name : List ℕ) (was is : D) : Type 0 where
  pub holds_are : desk.holds is ≡ desk.holds was
  pub logs_are : (other : List ℕ) → (other ≡ name → ⊥) → desk.logs is other ≡ desk.logs was other

-- each store has just been opened under this name for its shard
abbrev pub AreOpened : {S : Type 0} → Ghosts S → (ℕ → List ℕ) → Logged → List S → Type 0
AreOpened {S} G name logs stores =
    (shard : ℕ) (store : S) → slice_get stores shard ≡ Some store → IsOpened G (logs (name shard)) store

-- the old journal and the journal of each shard of this issuer have just been opened under their names
pub record HasAllOpened {S : Type 0} (G : Ghosts S) (issuer : Setup) (prefix : List ℕ) (logs : Logged)
    (olds stores : List S) : Type 0 where
  pub olds_count : length olds ≡ issuer.shards
  pub stores_count : length stores ≡ issuer.shards
  pub olds_are : AreOpened G (old_name prefix) logs olds
  pub stores_are : AreOpened G (journal_name prefix) logs stores

-- the shards of this issuer were loaded from the journals that the desk had under their names; of these, the old ones
-- were only read
pub record IsReady {S : Type 0} {G : Ghosts S} (issuer : Setup) (prefix : List ℕ) (logs : Logged) (olds : List S)
    (shards : List (Shard S G)) : Type 0 where
  pub old_stores : List S
  pub stores : List S
  pub opened : HasAllOpened G issuer prefix logs old_stores stores
  pub loaded : AreLoaded issuer old_stores olds stores shards
  pub only_read : AreOnlyRead G.size G.bytes G.disk G.room old_stores olds

-- the host of one caller was loaded for this issuer, from the journals that the desk had under their names; of these,
-- the old ones were only read
pub record IsReadySolo {S : Type 0} {G : Ghosts S} (issuer : Setup) (prefix : List ℕ) (logs : Logged) (olds : List S)
    (host : Solo S G) : Type 0 where
  pub issuer_is : host.issuer ≡ issuer
  pub shards : IsReady issuer prefix logs olds host.shards.items
