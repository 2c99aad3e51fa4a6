-- A bridge, and the machines that it stands for.
use Rattle.std.specs.Prelude.{◌≡◌, ℕ, ◌+◌, ◌<◌, ◌≤◌, ◌==◌, if◌then◌else◌, List, [], ◌∷◌, ◌++◌, length, take, slice_index_or, slice_set, Option, Some, None, Bool, true, false, map, All, replicate, nat_lt, IsTrue, ◌↔◌}
use Rattle.std.specs.List.{list_all}
use Rattle.one_history.specs.Prefixes.{IsPrefix}
use Rattle.one_history.specs.Streams.{Text, Word, is_word, Indexed, Count}
use Rattle.one_history.specs.Machines.{Answer, Machine, World, count_at}
use Rattle.bridge_rule.specs.declared.opening.Opening.{Opening}
use Rattle.bridge_rule.specs.declared.role.Role.{Role}
use Rattle.bridge_rule.specs.declared.role.Role.TheVariants.{Untold, Following, Beginning, Serving}
use Rattle.bridge_rule.specs.declared.role.Turn.{Turn}
use Rattle.bridge_rule.specs.declared.role.Turn.TheVariants.{Nothing, Starts, Ends, Yields}
use Rattle.bridge_rule.specs.declared.held.Held.{Held}
use Rattle.bridge_rule.specs.declared.held.Place.{Place}
use Rattle.bridge_rule.specs.declared.record.Placed.{Placed}
use Rattle.bridge_rule.specs.declared.log.Step.{Step}
use Rattle.bridge_rule.specs.declared.log.Step.TheVariants.{Skips, Stays, Puts, Replaces}
use Rattle.bridge_rule.specs.declared.limits.TheConstants.{LOGS, INDEX_END}
use Rattle.bridge_rule.specs.Openings.{barrier_of}
use Rattle.bridge_rule.specs.Logs.{LogState, new_log, taken_log, step_of, applied, forgotten, known_of, with_known}
use Rattle.bridge_rule.specs.Roles.{stage_of, turn_of, role_at}

-- a bridge: its machine's name, the last barrier that counts, its role, the log of each shard, what waits, and how much may wait
pub record BridgeState : Type 0 where
  pub machine : Word
  pub last : Opening
  pub role : Role
  pub logs : List LogState
  pub held : List Held
  pub room : ℕ

-- the log of a shard
abbrev pub log_at : List LogState → ℕ → LogState
log_at logs shard = slice_index_or logs shard (new_log 0 0)

-- the law's record
abbrev pub indexed : Placed → Indexed
indexed one = record { shard = one.shard; index = one.index; text = one.text.items }

-- the logs after a record
abbrev pub with_taken : List LogState → Indexed → List LogState
with_taken logs one = slice_set logs one.shard (taken_log (log_at logs one.shard) one.index one.text)

-- the logs after records, one after another
abbrev pub all_taken : List LogState → List Indexed → List LogState
all_taken logs [] = logs
all_taken logs (one ∷ records) = all_taken (with_taken logs one) records

-- the step at each of these records
abbrev pub steps_of : List LogState → List Indexed → List Step
steps_of logs [] = []
steps_of logs (one ∷ records) =
    step_of (log_at logs one.shard) one.index one.text ∷ steps_of (with_taken logs one) records

-- whether a step leaves the journal as it is
abbrev pub is_quiet : Step → Bool
is_quiet Skips = true
is_quiet Stays = true
is_quiet Puts = false
is_quiet Replaces = false

-- a shard's journal after the steps at these records
abbrev pub performed : ℕ → List Indexed → List Step → List Text → List Text
performed shard [] steps journal = journal
performed shard (one ∷ records) [] journal = journal
performed shard (one ∷ records) (step ∷ steps) journal =
    performed shard records steps (if one.shard == shard then applied step one.index one.text journal else journal)

-- what the bridge knows beyond the records that count, of a shard's journal: all that there is; while it serves, all
-- that it has read of the journal; before it was told, a part
abbrev pub IsKnown : Role → LogState → (history : List Text) → Machine → ℕ → Type 0
IsKnown Untold log history machine shard = IsPrefix (history ++ log.beyond) (machine.journals shard)
IsKnown Following log history machine shard = machine.journals shard ≡ history ++ log.beyond
IsKnown (Beginning own) log history machine shard = machine.journals shard ≡ history ++ log.beyond
IsKnown (Serving own) log history machine shard = (take (machine.known shard) (machine.journals shard) ≡ history ++ log.beyond)
    × (machine.known shard ≤ length (machine.journals shard))

-- the record that a reply waits for, if it waits for one
abbrev pub waits_for : Option ℕ → Option Place → List Place
waits_for None place = []
waits_for (Some reply) None = []
waits_for (Some reply) (Some place) = place ∷ []

-- the records that replies wait for, in their order
abbrev pub places_of : List Held → List Place
places_of [] = []
places_of (one ∷ held) = waits_for one.reply one.place ++ places_of held

-- where the record of an answer is
abbrev pub place_of : Answer → Place
place_of answer = record { shard = answer.shard; index = length answer.before }

-- a bridge stands for a machine that has read what counts so far
pub record StandsFor (bridge : BridgeState) (count : Count) (machine : Machine) : Type 0 where
  pub last : count.barrier ≡ barrier_of bridge.last
  pub stage : machine.stage ≡ stage_of bridge.role
  pub counts : (shard : ℕ) → (log_at bridge.logs shard).count ≡ length (count.histories shard)
  pub known : (shard : ℕ) → IsKnown bridge.role (log_at bridge.logs shard) (count.histories shard) machine shard
  pub held : places_of bridge.held ≡ map place_of machine.held

-- a bridge stands for the machine of its name in a world
abbrev pub StandsIn : BridgeState → World → Type 0
StandsIn bridge world =
    StandsFor bridge (count_at world (world.machines bridge.machine).read) (world.machines bridge.machine)

-- the bridge was told all of its journals
abbrev pub IsTold : Role → Type 0
IsTold Untold = ⊥
IsTold Following = Unit {0}
IsTold (Beginning own) = Unit {0}
IsTold (Serving own) = Unit {0}

-- the bridge serves
abbrev pub IsServing : Role → Type 0
IsServing Untold = ⊥
IsServing Following = ⊥
IsServing (Beginning own) = ⊥
IsServing (Serving own) = Unit {0}

-- each record is of one of the logs, and its index is in range
abbrev pub ArePlaced : List Placed → Type 0
ArePlaced records = All (λ one. (one.shard < LOGS) × (one.index < INDEX_END)) records

-- a bridge with these logs
abbrev pub with_logs : BridgeState → List LogState → BridgeState
with_logs bridge logs = record {
  machine = bridge.machine;
  last = bridge.last;
  role = bridge.role;
  logs = logs;
  held = bridge.held;
  room = bridge.room;
}

-- each of these steps leaves its journal as it is
abbrev pub are_quiet : List Step → Bool
are_quiet steps = list_all is_quiet steps

-- the logs after a message of records by this name
abbrev pub logs_read : BridgeState → Word → List Indexed → List LogState
logs_read bridge name records =
    if is_word name bridge.last.name.items then all_taken bridge.logs records else bridge.logs

-- the step at each of its records
abbrev pub steps_read : BridgeState → Word → List Indexed → List Step
steps_read bridge name records =
    if is_word name bridge.last.name.items then steps_of bridge.logs records else replicate (length records) Skips

-- each log, knowing just the records that count
abbrev pub all_forgotten : List LogState → List LogState
all_forgotten logs = map forgotten logs

-- the logs after a turn: a bridge that begins to serve knows just the records that count
abbrev pub logs_at : Turn → List LogState → List LogState
logs_at Nothing logs = logs
logs_at Starts logs = all_forgotten logs
logs_at Ends logs = logs
logs_at Yields logs = logs

-- the bridge after a barrier that counts
abbrev pub opened : BridgeState → Opening → BridgeState
opened bridge opening = record {
  machine = bridge.machine;
  last = opening;
  role = role_at (turn_of bridge.role opening) bridge.role opening;
  logs = logs_at (turn_of bridge.role opening) bridge.logs;
  held = [];
  room = bridge.room;
}

-- the bridge after a barrier, which counts if its number is the next one
abbrev pub barrier_read : BridgeState → Opening → BridgeState
barrier_read bridge opening = if opening.number == bridge.last.number + 1 then opened bridge opening else bridge

-- the turn at a barrier
abbrev pub turn_at : BridgeState → Opening → Turn
turn_at bridge opening = if opening.number == bridge.last.number + 1 then turn_of bridge.role opening else Nothing

-- a bridge with this role, of which nothing waits
abbrev pub with_role : BridgeState → Role → BridgeState
with_role bridge role = record {
  machine = bridge.machine;
  last = bridge.last;
  role = role;
  logs = bridge.logs;
  held = [];
  room = bridge.room;
}

-- a bridge of which these wait
abbrev pub with_held : BridgeState → List Held → BridgeState
with_held bridge held = record {
  machine = bridge.machine;
  last = bridge.last;
  role = bridge.role;
  logs = bridge.logs;
  held = held;
  room = bridge.room;
}

-- the role once the bridge was told all of its journals
abbrev pub told_role : Role → Role
told_role Untold = Following
told_role Following = Following
told_role (Beginning own) = Beginning own
told_role (Serving own) = Serving own

-- the role once the bridge neither serves nor waits for its barrier
abbrev pub parted_role : Role → Role
parted_role Untold = Untold
parted_role Following = Following
parted_role (Beginning own) = Following
parted_role (Serving own) = Untold

-- the bridge learns of its journals: it serves, or wasn't told all of them
abbrev pub IsLearning : Role → Type 0
IsLearning Untold = Unit {0}
IsLearning Following = ⊥
IsLearning (Beginning own) = ⊥
IsLearning (Serving own) = Unit {0}

-- the bridge follows, and was told all of its journals
abbrev pub IsFollowing : Role → Type 0
IsFollowing Untold = ⊥
IsFollowing Following = Unit {0}
IsFollowing (Beginning own) = ⊥
IsFollowing (Serving own) = ⊥

-- what waits for a record waits for one that the bridge knows
abbrev pub WaitsForKnown : List LogState → Option Place → Type 0
WaitsForKnown logs None = Unit {0}
WaitsForKnown logs (Some place) = place.index < known_of (log_at logs place.shard)

-- whether the record that has to count does
abbrev pub place_counts : List LogState → Option Place → Bool
place_counts logs None = true
place_counts logs (Some place) = nat_lt place.index (log_at logs place.shard).count

-- a new bridge, from a position: it knows just the records that count there
abbrev pub new_bridge : Word → Opening → List ℕ → (room waiting : ℕ) → BridgeState
new_bridge machine last counts room waiting = record {
  machine = machine;
  last = last;
  role = Untold;
  logs = map (λ count. new_log count room) counts;
  held = [];
  room = waiting;
}

-- the first that waits, if its record counts
abbrev pub released : List LogState → List Held → Option Held
released logs [] = None
released logs (one ∷ held) = if place_counts logs one.place then Some one else None

-- the bridge once it was told all of its journals
abbrev pub told_bridge : BridgeState → BridgeState
told_bridge bridge = record {
  machine = bridge.machine;
  last = bridge.last;
  role = told_role bridge.role;
  logs = bridge.logs;
  held = bridge.held;
  room = bridge.room;
}

-- the bridge with one more record of a shard that it knows
abbrev pub learned : BridgeState → ℕ → Text → BridgeState
learned bridge shard text = with_logs bridge (slice_set bridge.logs shard (with_known (log_at bridge.logs shard) text))

-- the barrier that the bridge waits for, if it waits for one
abbrev pub waited_for : Role → Option Opening
waited_for Untold = None
waited_for Following = None
waited_for (Beginning own) = Some own
waited_for (Serving own) = None

-- the name by which it serves
abbrev pub served_name : Role → Word
served_name Untold = []
served_name Following = []
served_name (Beginning own) = []
served_name (Serving own) = own.name.items

-- whether it was told all of its journals; whether it follows and was told; whether it serves
abbrev pub is_told : Role → Bool
is_told Untold = false
is_told Following = true
is_told (Beginning own) = true
is_told (Serving own) = true

abbrev pub follows : Role → Bool
follows Untold = false
follows Following = true
follows (Beginning own) = false
follows (Serving own) = false

abbrev pub serves : Role → Bool
serves Untold = false
serves Following = false
serves (Beginning own) = false
serves (Serving own) = true

-- the bridge after a message of records by this name, and the step at each; the records are of its logs; it is refused exactly if the bridge serves
-- and a step changes its journals
pub record DoesReadRecords (old new : BridgeState) (name : Word) (records : List Indexed) (steps : List Step) (is_taken : Bool) : Type 0 where
  pub within : All (λ one. one.shard < length old.logs) records
  pub logs : new ≡ with_logs old (logs_read old name records)
  pub steps_are : steps ≡ steps_read old name records
  pub taken : IsTrue is_taken ↔ (IsServing old.role → are_quiet (steps_read old name records) ≡ true)
