-- A bridge that stands for a machine of a run never diverges.
use Rattle.std.proofs.Common.{◌≡◌, ℕ, ◌<◌, Bool, true, false, List, length, take, map, replicate, refl, ap, sym, ◌∙◌, subst, if◌then◌else◌}
use Rattle.std.specs.List.{All}
use Rattle.std.proofs.lemmas.List.Elements.{All-map, All-weaker}
use Rattle.one_history.specs.Prefixes.{IsPrefix}
use Rattle.one_history.specs.Streams.{Text, Word, Barrier, Indexed, Message, OfRecords, is_word, next_count, opens}
use Rattle.one_history.specs.Machines.{Serves, Machine, count_at, next_message}
use Rattle.one_history.specs.Events.{end_of, count_with_next}
use Rattle.one_history.specs.Keys.{IsFirst}
use Rattle.one_history.proofs.Runs.{sound-run}
use Rattle.one_history.proofs.Reading.{serving-has}
use Rattle.bridge_rule.specs.declared.log.Step.TheVariants.{Skips}
use Rattle.bridge_rule.specs.declared.role.Role.{Role}
use Rattle.bridge_rule.specs.declared.role.Role.TheVariants.{Untold, Following, Beginning, Serving}
use Rattle.bridge_rule.specs.declared.record.Placed.{Placed}
use Rattle.bridge_rule.specs.Openings.{barrier_of}
use Rattle.bridge_rule.specs.Logs.{LogState}
use Rattle.bridge_rule.specs.Roles.{stage_of}
use Rattle.bridge_rule.specs.Bridges.{BridgeState, IsKnown, IsServing, ArePlaced, indexed, log_at, steps_of, are_quiet, steps_read}
use Rattle.bridge_rule.specs.Events.{IsOfARun}
use Rattle.bridge_rule.proofs.Settling.{HasAll, all-quiet, skips-quiet}
use Rattle.bridge_rule.proofs.ReadingRecords.{history_read}

-- records that are placed are of the logs
pub placed-within : (logs : List LogState) (records : List Placed) → length logs ≡ 17 → ArePlaced records
    → All (λ one. one.shard < length logs) (map indexed records)
placed-within logs records long placed =
    All-map (λ (one : Indexed). one.shard < length logs) indexed records
    (All-weaker (λ (one : Placed). (one.shard < 17) × (one.index < 9223372036854775808)) (λ (one : Placed). one.shard < length logs)
    (λ one both. subst (λ (n : ℕ). one.shard < n) (sym long) both.0) records placed)

-- the steps at records, all of which the serving bridge knows
serving-quiet : (counts : Bool) (logs : List LogState) (histories known : ℕ → List Text) (records : List Indexed)
    → All (λ one. one.shard < length logs) records → ((shard : ℕ) → HasAll (log_at logs shard) (histories shard) (known shard))
    → ((shard : ℕ) → IsPrefix (history_read counts shard (histories shard) records) (known shard))
    → are_quiet (if counts then steps_of logs records else replicate (length records) Skips) ≡ true
serving-quiet true logs histories known records within all prefix = all-quiet logs histories known records within all prefix
serving-quiet false logs histories known records within all prefix = skips-quiet (length records)

-- what a bridge that serves knows
serving-known : (role : Role) → IsServing role → (log : LogState) (history : List Text) (machine : Machine) (shard : ℕ)
    → log.count ≡ length history → IsKnown role log history machine shard
    → HasAll log history (take (machine.known shard) (machine.journals shard))
serving-known Untold serves log history machine shard count known = absurd serves
serving-known Following serves log history machine shard count known = absurd serves
serving-known (Beginning own) serves log history machine shard count known = absurd serves
serving-known (Serving own) serves log history machine shard count known = record { count_is = count; journal_is = known.0 }

-- the barrier of a bridge that serves
pub serving-stage : (role : Role) → IsServing role → (barrier : Barrier) × (stage_of role ≡ Serves barrier)
serving-stage Untold serves = absurd serves
serving-stage Following serves = absurd serves
serving-stage (Beginning own) serves = absurd serves
serving-stage (Serving own) serves = (barrier_of own, refl)

pub never-diverges : (bridge : BridgeState) (name : Word) (records : List Indexed) → IsServing bridge.role
    → All (λ one. one.shard < length bridge.logs) records → IsOfARun bridge (OfRecords name records)
    → are_quiet (steps_read bridge name records) ≡ true
never-diverges bridge name records serves within of =
    let world = end_of of.base of.events in
    let machine = world.machines bridge.machine in
    let count = count_at world machine.read in
    let it = sound-run (IsFirst of.keys) of.base of.events of.run in
    let serving = serving-stage bridge.role serves in
    let other : opens count.barrier (next_message world machine) ≡ false =
    ap (opens count.barrier) of.is_next.message_is in
    let has : (shard : ℕ) → IsPrefix ((count_with_next world machine).histories shard) (take (machine.known shard) (machine.journals shard)) =
    serving-has (IsFirst of.keys) world it.0 it.1 bridge.machine serving.0 (of.stands.stage ∙ serving.1) of.is_next.unread other in
    let counts : (shard : ℕ) → (count_with_next world machine).histories shard
    ≡ history_read (is_word name bridge.last.name.items) shard (count.histories shard) records =
    λ shard. ap (λ (message : Message). (next_count count message).histories shard) of.is_next.message_is
    ∙ ap (λ (b : Barrier). history_read (is_word name b.name) shard (count.histories shard) records) of.stands.last in
    serving-quiet (is_word name bridge.last.name.items) bridge.logs count.histories
    (λ shard. take (machine.known shard) (machine.journals shard)) records within
    (λ shard. serving-known bridge.role serves (log_at bridge.logs shard) (count.histories shard) machine shard (of.stands.counts shard)
    (of.stands.known shard))
    (λ shard. subst (λ (history : List Text). IsPrefix history (take (machine.known shard) (machine.journals shard))) (counts shard) (has shard))
