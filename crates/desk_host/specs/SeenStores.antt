-- What a run sees of its journals: what the desk tells of them, and the stores of those that were opened.
use Rattle.std.specs.Prelude.{ℕ, List, [], map, Option}
use Rattle.issuer_base.specs.Stores.{Disk}
use Rattle.issuer_base.specs.declared.outside.store.Store.{Ghosts as Store}

-- what a desk tells of its journals: nothing, or the bytes of the one under each name
abbrev pub Logged : Type 0
Logged = List ℕ → Option (List ℕ)

-- the store of a journal that was opened, after the run: its bytes and its disk, where it tells, and its count of
-- faults
pub record SeenStore : Type 0 where
  pub bytes : Option (List ℕ)
  pub disk : Option Disk
  pub faults : ℕ

-- a store after the run
abbrev pub store_seen : {J : Type 0} → Store J → J → SeenStore
store_seen store journal =
    record { bytes = store.bytes journal; disk = store.disk journal; faults = store.faults journal }

-- the journals that were opened, after the run: the old ones, of version 1, and those of version 2, each list in the
-- order of the shards
pub record SeenJournals : Type 0 where
  pub olds : List SeenStore
  pub stores : List SeenStore

-- journals after the run
abbrev pub journals_seen : {J : Type 0} → Store J → List J → List J → SeenJournals
journals_seen store olds stores =
    record { olds = map (store_seen store) olds; stores = map (store_seen store) stores }

-- no journal was opened
abbrev pub no_journals : SeenJournals
no_journals = record { olds = []; stores = [] }
