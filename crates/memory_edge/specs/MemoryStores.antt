-- The model of a store in memory, and how each call changes it.
use Rattle.std.specs.Prelude.{◌≡◌, ◌⊎◌, ℕ, ◌+◌, ◌-◌, ◌/◌, min, Bool, true, ◌||◌, nat_lt, List, length, take, if◌then◌else◌}
use Rattle.issuer_base.specs.Stores.{Disk}
use Rattle.memory_edge.specs.OutsideMemory.{Calls, after_call, is_next_listed, no_calls, one_more}
use Rattle.issuer_base.specs.declared.limits.TheConstants.{MAX_STORE_BYTES}
use Rattle.memory_edge.specs.KeptDisk.{opened_disk, goes_to, appended, cut_to, all_safe}

-- a store in memory: its disk, how many bytes it has room for, its calls, and how many of them ran out of memory
pub record StoreState : Type 0 where
  pub disk : Disk
  pub room : ℕ
  pub calls : Calls
  pub starved : ℕ

-- a new store
abbrev pub opened_store : List ℕ → ℕ → List ℕ → StoreState
opened_store bytes room fails = record { disk = opened_disk bytes; room = room; calls = no_calls fails; starved = 0 }

-- the piece goes past the room, or past what any store holds
abbrev pub is_too_long : StoreState → List ℕ → Bool
is_too_long store piece =
    nat_lt store.room (length store.disk.now.bytes + length piece)
    || nat_lt MAX_STORE_BYTES (length store.disk.now.bytes + length piece)

-- the next call fails, if it appends this piece
abbrev pub append_fails : StoreState → List ℕ → Bool
append_fails store piece = is_next_listed store.calls || is_too_long store piece

-- what an append that fails appends of its piece: the first half, as far as there is room
abbrev pub front_taken : StoreState → List ℕ → List ℕ
front_taken store piece = take (min (length piece / 2) (store.room - length store.disk.now.bytes)) piece

-- what an append appends of its piece
abbrev pub taken : StoreState → List ℕ → List ℕ
taken store piece = if append_fails store piece then front_taken store piece else piece

-- the store after a call that fails or not, with this disk
abbrev pub called : StoreState → Bool → Disk → StoreState
called store failed disk =
    record { disk = disk; room = store.room; calls = after_call store.calls failed; starved = store.starved }

-- the store after a read
abbrev pub after_read : StoreState → StoreState
after_read store = called store (is_next_listed store.calls) store.disk

-- the store after an append
abbrev pub after_append : StoreState → List ℕ → StoreState
after_append store piece =
    called store (append_fails store piece) (goes_to store.disk (appended (taken store piece) store.disk.now))

-- the store after a truncation, which changes nothing if it fails
abbrev pub after_cut : StoreState → ℕ → StoreState
after_cut store len =
    called store (is_next_listed store.calls)
    (if is_next_listed store.calls then store.disk else goes_to store.disk (cut_to len store.disk.now))

-- the store after a sync, which changes nothing if it fails
abbrev pub after_sync : StoreState → StoreState
after_sync store =
    called store (is_next_listed store.calls)
    (if is_next_listed store.calls then store.disk else goes_to store.disk (all_safe store.disk.now.bytes))

-- the store after a call that ran out of memory to record it: the call failed, and changed no byte
abbrev pub after_starved : StoreState → StoreState
after_starved store =
    record {
      disk = store.disk;
      room = store.room;
      calls = after_call store.calls true;
      starved = one_more store.starved;
    }

-- a call left this store and failed as it had to, or it ran out of memory
abbrev pub EndsAs : StoreState → StoreState → Bool → StoreState → Bool → Type 0
EndsAs old new failed due fails = ((new ≡ due) × (failed ≡ fails)) ⊎ ((new ≡ after_starved old) × (failed ≡ true))
