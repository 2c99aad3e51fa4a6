-- A bridge leaves its role, or its host ends.
use Rattle.std.proofs.Common.{◌≡◌, ℕ, ◌≤◌, List, [], ◌++◌, take, refl, sym, ◌∙◌, arith}
use Rattle.std.proofs.lemmas.List.{take-take, length-take}
use Rattle.one_history.specs.Streams.{Text}
use Rattle.one_history.specs.Machines.{Follows, Machine, World, count_at}
use Rattle.one_history.specs.Events.{Part, next, truncated}
use Rattle.one_history.proofs.Prefixed.{prefix-trans, prefix-take, prefix-same}
use Rattle.bridge_rule.specs.declared.role.Role.{Role}
use Rattle.bridge_rule.specs.declared.role.Role.TheVariants.{Untold, Following, Beginning, Serving}
use Rattle.bridge_rule.specs.Logs.{LogState}
use Rattle.bridge_rule.specs.Roles.{stage_of}
use Rattle.bridge_rule.specs.Bridges.{BridgeState, StandsIn, IsKnown, IsServing, log_at, with_role, with_held, parted_role}
use Rattle.bridge_rule.specs.Events.{DoesEnd}
use Rattle.bridge_rule.proofs.Standing.{stands-here}
use Rattle.bridge_rule.proofs.NeverDiverged.{serving-stage}

parted-stage : (role : Role) → Follows ≡ stage_of (parted_role role)
parted-stage Untold = refl
parted-stage Following = refl
parted-stage (Beginning own) = refl
parted-stage (Serving own) = refl

parted-known : (role : Role) (log : LogState) (history : List Text) (machine : Machine) (shard : ℕ) → IsKnown role log history machine shard
    → IsKnown (parted_role role) log history (record machine { stage = Follows; held = [] }) shard
parted-known Untold log history machine shard known = known
parted-known Following log history machine shard known = known
parted-known (Beginning own) log history machine shard known = known
parted-known (Serving own) log history machine shard known =
    prefix-trans (history ++ log.beyond) (take (machine.known shard) (machine.journals shard)) (machine.journals shard)
    (prefix-same (history ++ log.beyond) (take (machine.known shard) (machine.journals shard)) (sym known.0))
    (prefix-take (machine.known shard) (machine.journals shard))

-- the machine parts
pub parts : (bridge : BridgeState) (world : World) → StandsIn bridge world
    → StandsIn (with_role bridge (parted_role bridge.role)) (next world (Part bridge.machine))
parts bridge world stands =
    let machine = world.machines bridge.machine in
    let count = count_at world machine.read in
    stands-here (with_role bridge (parted_role bridge.role)) world (record machine { stage = Follows; held = [] })
    (record {
      last = stands.last;
      stage = parted-stage bridge.role;
      counts = stands.counts;
      known = λ shard. parted-known bridge.role (log_at bridge.logs shard) (count.histories shard) machine shard (stands.known shard);
      held = refl;
    })

-- what is known of journals that keep it
kept-known : (role : Role) → IsServing role → (log : LogState) (history : List Text) (machine : Machine) (keep : ℕ → ℕ) (shard : ℕ)
    → machine.known shard ≤ keep shard → IsKnown role log history machine shard
    → IsKnown role log history (record machine { journals = truncated machine.journals keep; held = [] }) shard
kept-known Untold serves log history machine keep shard keeps known = absurd serves
kept-known Following serves log history machine keep shard keeps known = absurd serves
kept-known (Beginning own) serves log history machine keep shard keeps known = absurd serves
kept-known (Serving own) serves log history machine keep shard keeps known =
    let long = length-take (keep shard) (machine.journals shard) in
    let within = known.1 in
    (take-take (machine.known shard) (keep shard) (machine.journals shard) keeps ∙ known.0, omega arith)

-- the machine's host ends
pub ends-host : (bridge : BridgeState) (world : World) (keep : ℕ → ℕ) → IsServing bridge.role → StandsIn bridge world
    → ((shard : ℕ) → (world.machines bridge.machine).known shard ≤ keep shard) → DoesEnd (with_held bridge []) world keep
ends-host bridge world keep serves stands keeps =
    let machine = world.machines bridge.machine in
    let count = count_at world machine.read in
    let serving = serving-stage bridge.role serves in
    record {
      can = record {
        serving = record { barrier = serving.0; stage_is = stands.stage ∙ serving.1 };
        keeps = keeps;
      };
      stands = stands-here (with_held bridge []) world (record machine { journals = truncated machine.journals keep; held = [] })
          (record {
            last = stands.last;
            stage = stands.stage;
            counts = stands.counts;
            known = λ shard. kept-known bridge.role serves (log_at bridge.logs shard) (count.histories shard) machine keep shard (keeps shard)
                (stands.known shard);
            held = refl;
          });
    }
