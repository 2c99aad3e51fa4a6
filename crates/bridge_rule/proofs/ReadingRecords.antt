-- A bridge reads a message of records.
use Rattle.std.proofs.Common.{◌≡◌, ℕ, ◌+◌, ◌<◌, ◌≤◌, Bool, true, false, List, ◌++◌, length, take, replicate, refl, ap, sym, ◌∙◌, subst, inl, if◌then◌else◌}
use Rattle.std.specs.List.{All}
use Rattle.one_history.specs.Streams.{Text, Word, Barrier, Indexed, OfRecords, is_word, with_records, next_count}
use Rattle.one_history.specs.Machines.{Machine, count_at}
use Rattle.one_history.specs.Events.{IsSettled}
use Rattle.one_history.proofs.Prefixed.{prefix-trans, prefix-take}
use Rattle.bridge_rule.specs.declared.log.Step.{Step}
use Rattle.bridge_rule.specs.declared.log.Step.TheVariants.{Skips}
use Rattle.bridge_rule.specs.declared.role.Role.{Role}
use Rattle.bridge_rule.specs.declared.role.Role.TheVariants.{Untold, Following, Beginning, Serving}
use Rattle.bridge_rule.specs.Logs.{LogState}
use Rattle.bridge_rule.specs.Bridges.{BridgeState, IsKnown, IsTold, IsServing, log_at, all_taken, steps_of, are_quiet, performed, with_logs, logs_read, steps_read}
use Rattle.bridge_rule.specs.Events.{ReadsMessage}
use Rattle.bridge_rule.proofs.Settling.{HasAll, Settles, all-settle, quiet-stays, skips-quiet}
use Rattle.bridge_rule.proofs.Standing.{does-read}

-- what counts of a shard after a message of records by this name, where the last barrier has that name or not
abbrev pub history_read : Bool → ℕ → List Text → List Indexed → List Text
history_read counts shard history records = if counts then with_records shard history records else history

-- the steps at the records of a message settle a journal
read-settled : (counts : Bool) (logs : List LogState) (records : List Indexed) (shard : ℕ) (history journal : List Text)
    → All (λ one. one.shard < length logs) records → HasAll (log_at logs shard) history journal
    → Settles (log_at (if counts then all_taken logs records else logs) shard) (history_read counts shard history records) journal
    (performed shard records (if counts then steps_of logs records else replicate (length records) Skips) journal)
read-settled true logs records shard history journal within all = all-settle logs shard history journal records within all
read-settled false logs records shard history journal within all =
    subst (Settles (log_at logs shard) history journal)
    (sym (quiet-stays shard records (replicate (length records) Skips) journal (skips-quiet (length records))))
    (record { has = all; settled = inl (record { remainder = (log_at logs shard).beyond; is = sym all.journal_is }, refl) })

module _ (counts : Bool) (logs : List LogState) (records : List Indexed) (within : All (λ one. one.shard < length logs) records)
    (machine : Machine) (shard : ℕ) (history : List Text) where
  abbrev read_logs : List LogState
  read_logs = if counts then all_taken logs records else logs

  abbrev read_steps : List Step
  read_steps = if counts then steps_of logs records else replicate (length records) Skips

  -- the machine with the journals after the steps
  abbrev read_machine : Machine
  read_machine = record machine { read = machine.read + 1; journals = λ other. performed other records read_steps (machine.journals other) }

  -- one journal is settled, and the bridge knows of it what it knew
  pub record IsRead (role : Role) : Type 0 where
    pub settled : IsSettled (history_read counts shard history records) (machine.journals shard) (read_machine.journals shard)
    pub count : (log_at read_logs shard).count ≡ length (history_read counts shard history records)
    pub known : IsKnown role (log_at read_logs shard) (history_read counts shard history records) read_machine shard

  one-read : (role : Role) → IsTold role → (IsServing role → are_quiet read_steps ≡ true) → (log_at logs shard).count ≡ length history
      → IsKnown role (log_at logs shard) history machine shard → IsRead role
  one-read Untold told quiet count known = absurd told
  one-read Following told quiet count known =
      let it = read-settled counts logs records shard history (machine.journals shard) within (record { count_is = count; journal_is = known }) in
      record { settled = it.settled; count = it.has.count_is; known = it.has.journal_is }
  one-read (Beginning own) told quiet count known =
      let it = read-settled counts logs records shard history (machine.journals shard) within (record { count_is = count; journal_is = known }) in
      record { settled = it.settled; count = it.has.count_is; known = it.has.journal_is }
  one-read (Serving own) told quiet count known =
      let read = take (machine.known shard) (machine.journals shard) in
      let it = read-settled counts logs records shard history read within (record { count_is = count; journal_is = known.0 }) in
      let has : read ≡ history_read counts shard history records ++ (log_at read_logs shard).beyond =
      sym (quiet-stays shard records read_steps read (quiet tt)) ∙ it.has.journal_is in
      let stays : performed shard records read_steps (machine.journals shard) ≡ machine.journals shard =
      quiet-stays shard records read_steps (machine.journals shard) (quiet tt) in
      record {
        settled = inl (
          prefix-trans (history_read counts shard history records) read (machine.journals shard)
              (record { remainder = (log_at read_logs shard).beyond; is = sym has }) (prefix-take (machine.known shard) (machine.journals shard)),
          stays,
        );
        count = it.has.count_is;
        known = (ap (take (machine.known shard)) stays ∙ has, subst (λ (l : List Text). machine.known shard ≤ length l) (sym stays) known.1);
      }

-- the bridge reads a message of records
pub reads-records : (bridge : BridgeState) (name : Word) (records : List Indexed) → IsTold bridge.role
    → All (λ one. one.shard < length bridge.logs) records
    → (IsServing bridge.role → are_quiet (steps_read bridge name records) ≡ true)
    → ReadsMessage bridge (with_logs bridge (logs_read bridge name records)) (OfRecords name records)
    (λ journals shard. performed shard records (steps_read bridge name records) (journals shard))
reads-records bridge name records told within quiet world stands is_next =
    let machine = world.machines bridge.machine in
    let count = count_at world machine.read in
    let counts = is_word name bridge.last.name.items in
    let names : is_word name bridge.last.name.items ≡ is_word name count.barrier.name =
    ap (λ (b : Barrier). is_word name b.name) (sym stands.last) in
    let histories : (shard : ℕ) → history_read counts shard (count.histories shard) records
    ≡ (next_count count (OfRecords name records)).histories shard =
    λ shard. ap (λ (b : Bool). history_read b shard (count.histories shard) records) names in
    let each : (shard : ℕ) → IsRead counts bridge.logs records within machine shard (count.histories shard) bridge.role =
    λ shard. one-read counts bridge.logs records within machine shard (count.histories shard) bridge.role told quiet (stands.counts shard)
    (stands.known shard) in
    does-read (with_logs bridge (logs_read bridge name records)) world (OfRecords name records) is_next
    (λ shard. performed shard records (steps_read bridge name records) (machine.journals shard))
    (read_machine counts bridge.logs records within machine 0 (count.histories 0)) refl refl
    (λ shard. subst (λ (history : List Text). IsSettled history (machine.journals shard)
    (performed shard records (steps_read bridge name records) (machine.journals shard))) (histories shard) (each shard).settled)
    (record {
      last = stands.last;
      stage = stands.stage;
      counts = λ shard. (each shard).count ∙ ap (λ (history : List Text). length history) (histories shard);
      known = λ shard. subst (λ (history : List Text). IsKnown bridge.role (log_at (logs_read bridge name records) shard) history
          (read_machine counts bridge.logs records within machine 0 (count.histories 0)) shard) (histories shard) (each shard).known;
      held = stands.held;
    })
