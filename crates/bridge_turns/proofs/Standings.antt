-- A bridge that was told its journals, and one that calls.
use Rattle.std.proofs.Common.{◌≡◌, ℕ, ◌+◌, ◌≤◌, false, List, ◌++◌, length, refl, sym, ◌∙◌, arith}
use Rattle.std.proofs.lemmas.List.{take_all, length-append}
use Rattle.one_history.specs.Prefixes.{IsPrefix}
use Rattle.one_history.specs.Streams.{Text, Word}
use Rattle.one_history.specs.Machines.{Machine, World, count_at}
use Rattle.one_history.specs.Events.{Call, calls, next}
use Rattle.one_history.proofs.Prefixed.{prefix-is_take}
use Rattle.bridge_rule.specs.declared.opening.Opening.{Opening}
use Rattle.bridge_rule.specs.declared.role.Role.{Role}
use Rattle.bridge_rule.specs.declared.role.Role.TheVariants.{Untold, Following, Beginning, Serving}
use Rattle.bridge_rule.specs.Openings.{barrier_of}
use Rattle.bridge_rule.specs.Logs.{LogState, known_of}
use Rattle.bridge_rule.specs.Roles.{stage_of}
use Rattle.bridge_rule.specs.Bridges.{BridgeState, StandsIn, IsKnown, IsFollowing, log_at, told_bridge, told_role, is_told, with_role}
use Rattle.bridge_rule.specs.Events.{KnowsAll}
use Rattle.bridge_rule.proofs.Standing.{stands-here}
use Rattle.bridge_turns.specs.Turns.{opening_of}

-- a journal of which all is known
whole-known : (log : LogState) (history journal : List Text) → log.count ≡ length history → length journal ≡ known_of log
    → IsPrefix (history ++ log.beyond) journal → journal ≡ history ++ log.beyond
whole-known log history journal count all prefix =
    let long = length-append history log.beyond in
    let within : length journal ≤ length (history ++ log.beyond) = omega arith in
    sym (take_all (length (history ++ log.beyond)) journal within) ∙ prefix-is_take (history ++ log.beyond) journal prefix

told-stage : (role : Role) → stage_of role ≡ stage_of (told_role role)
told-stage Untold = refl
told-stage Following = refl
told-stage (Beginning own) = refl
told-stage (Serving own) = refl

told-known : (role : Role) (log : LogState) (history : List Text) (machine : Machine) (shard : ℕ) → log.count ≡ length history
    → (is_told role ≡ false → length (machine.journals shard) ≡ known_of log) → IsKnown role log history machine shard
    → IsKnown (told_role role) log history machine shard
told-known Untold log history machine shard count all known = whole-known log history (machine.journals shard) count (all refl) known
told-known Following log history machine shard count all known = known
told-known (Beginning own) log history machine shard count all known = known
told-known (Serving own) log history machine shard count all known = known

pub stands-told : (bridge : BridgeState) (world : World) → StandsIn bridge world → (is_told bridge.role ≡ false → KnowsAll bridge world)
    → StandsIn (told_bridge bridge) world
stands-told bridge world stands all =
    let machine = world.machines bridge.machine in
    let count = count_at world machine.read in
    record {
      last = stands.last;
      stage = stands.stage ∙ told-stage bridge.role;
      counts = stands.counts;
      known = λ shard. told-known bridge.role (log_at bridge.logs shard) (count.histories shard) machine shard (stands.counts shard)
          (λ untold. all untold shard) (stands.known shard);
      held = stands.held;
    }

called-known : (role : Role) (own : Opening) (log : LogState) (history : List Text) (machine : Machine) (shard : ℕ) → IsFollowing role
    → IsKnown role log history machine shard → IsKnown (Beginning own) log history (calls machine (barrier_of own)) shard
called-known Untold own log history machine shard follows known = absurd follows
called-known Following own log history machine shard follows known = known
called-known (Beginning other) own log history machine shard follows known = absurd follows
called-known (Serving other) own log history machine shard follows known = absurd follows

pub stands-called : (bridge : BridgeState) (world : World) (name : Word) → StandsIn bridge world → IsFollowing bridge.role
    → StandsIn (with_role bridge (Beginning (opening_of bridge name))) (next world (Call bridge.machine (bridge.last.number + 1) name))
stands-called bridge world name stands follows =
    let machine = world.machines bridge.machine in
    let count = count_at world machine.read in
    let own = opening_of bridge name in
    stands-here (with_role bridge (Beginning own)) world (calls machine (barrier_of own)) (record {
      last = stands.last;
      stage = refl;
      counts = stands.counts;
      known = λ shard. called-known bridge.role own (log_at bridge.logs shard) (count.histories shard) machine shard follows (stands.known shard);
      held = refl;
    })
