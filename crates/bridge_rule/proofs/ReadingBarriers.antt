-- A bridge reads a barrier, or a message that counts nothing.
use Rattle.std.proofs.Common.{◌≡◌, ℕ, ◌+◌, ◌≤◌, Bool, true, false, List, ◌++◌, length, take, refl, ap, sym, ◌∙◌, subst, inl, if◌then◌else◌}
use Rattle.std.proofs.lemmas.Bool.{cond-true, cond-false, eq-eqb, ne_eqb}
use Rattle.std.proofs.lemmas.List.{append-nil}
use Rattle.one_history.specs.Prefixes.{IsPrefix}
use Rattle.one_history.specs.Streams.{Text, Barrier, Message, OfBarrier, Count, is_next, is_barrier, next_count, opens}
use Rattle.one_history.specs.Machines.{Follows, Serves, Machine, count_at}
use Rattle.one_history.specs.Events.{stage_after, turned}
use Rattle.one_history.proofs.Prefixed.{prefix-trans, prefix-take, prefix-same, prefix-length, prefix-is_take, prefix-append}
use Rattle.one_history.proofs.Words.{barrier-same}
use Rattle.bridge_rule.specs.declared.opening.Opening.{Opening}
use Rattle.bridge_rule.specs.declared.role.Role.{Role}
use Rattle.bridge_rule.specs.declared.role.Role.TheVariants.{Untold, Following, Beginning, Serving}
use Rattle.bridge_rule.specs.declared.role.Turn.{Turn}
use Rattle.bridge_rule.specs.declared.role.Turn.TheVariants.{Nothing, Starts, Ends, Yields}
use Rattle.bridge_rule.specs.Openings.{barrier_of}
use Rattle.bridge_rule.specs.Logs.{LogState}
use Rattle.bridge_rule.specs.Roles.{stage_of, turn_of, role_at}
use Rattle.bridge_rule.specs.Bridges.{BridgeState, IsKnown, IsTold, log_at, opened}
use Rattle.bridge_rule.specs.Events.{ReadsMessage}
use Rattle.bridge_rule.proofs.Standing.{does-read}
use Rattle.bridge_rule.proofs.Forgetting.{log_after, turned-at}

-- the journals begin with what counts
pub known-counts : (role : Role) (log : LogState) (history : List Text) (machine : Machine) (shard : ℕ) → IsKnown role log history machine shard
    → IsPrefix history (machine.journals shard)
known-counts Untold log history machine shard known =
    prefix-trans history (history ++ log.beyond) (machine.journals shard) (prefix-append history log.beyond) known
known-counts Following log history machine shard known = record { remainder = log.beyond; is = sym known }
known-counts (Beginning own) log history machine shard known = record { remainder = log.beyond; is = sym known }
known-counts (Serving own) log history machine shard known =
    prefix-trans history (take (machine.known shard) (machine.journals shard)) (machine.journals shard)
    (record { remainder = log.beyond; is = sym known.0 }) (prefix-take (machine.known shard) (machine.journals shard))

-- what is known of a machine's journal depends on the journal and on what the machine knows of it
pub known-same : (role : Role) (log : LogState) (history : List Text) (machine other : Machine) (shard : ℕ)
    → machine.journals ≡ other.journals → machine.known ≡ other.known → IsKnown role log history machine shard
    → IsKnown role log history other shard
known-same Untold log history machine other shard journals knows known =
    subst (λ (j : ℕ → List Text). IsPrefix (history ++ log.beyond) (j shard)) journals known
known-same Following log history machine other shard journals knows known =
    subst (λ (j : ℕ → List Text). j shard ≡ history ++ log.beyond) journals known
known-same (Beginning own) log history machine other shard journals knows known =
    subst (λ (j : ℕ → List Text). j shard ≡ history ++ log.beyond) journals known
known-same (Serving own) log history machine other shard journals knows known =
    subst (λ (j : ℕ → List Text). (take (other.known shard) (j shard) ≡ history ++ log.beyond) × (other.known shard ≤ length (j shard))) journals
    (subst (λ (k : ℕ → ℕ). (take (k shard) (machine.journals shard) ≡ history ++ log.beyond) × (k shard ≤ length (machine.journals shard))) knows known)

-- a message that counts nothing changes nothing
pub reads-nothing : (bridge : BridgeState) (message : Message)
    → ((count : Count) → opens count.barrier message ≡ false)
    → ((count : Count) → count.barrier ≡ barrier_of bridge.last → (next_count count message).barrier ≡ count.barrier)
    → ((count : Count) (shard : ℕ) → (next_count count message).histories shard ≡ count.histories shard)
    → ReadsMessage bridge bridge message (λ journals. journals)
reads-nothing bridge message closed last_stays histories_stay world stands comes =
    let machine = world.machines bridge.machine in
    let count = count_at world machine.read in
    does-read bridge world message comes machine.journals (record machine { read = machine.read + 1 })
    (cond-false (opens count.barrier message) (turned machine (next_count count message) machine.journals)
    (record machine { read = machine.read + 1 }) (closed count)) refl
    (λ shard. inl (
      subst (λ (history : List Text). IsPrefix history (machine.journals shard)) (sym (histories_stay count shard))
          (known-counts bridge.role (log_at bridge.logs shard) (count.histories shard) machine shard (stands.known shard)),
      refl,
    ))
    (record {
      last = last_stays count stands.last ∙ stands.last;
      stage = stands.stage;
      counts = λ shard. stands.counts shard ∙ ap (λ (history : List Text). length history) (sym (histories_stay count shard));
      known = λ shard. subst (λ (history : List Text). IsKnown bridge.role (log_at bridge.logs shard) history
          (record machine { read = machine.read + 1 }) shard) (sym (histories_stay count shard))
          (known-same bridge.role (log_at bridge.logs shard) (count.histories shard) machine (record machine { read = machine.read + 1 }) shard
          refl refl (stands.known shard));
      held = stands.held;
    })

-- where the machine stands after a barrier that counts
own-stage : (own opening : Opening) (is : Bool) → is_barrier (barrier_of own) (barrier_of opening) ≡ is
    → (if is then Serves (barrier_of own) else Follows) ≡ stage_of (role_at (if is then Starts else Yields) (Beginning own) opening)
own-stage own opening true same = ap (λ (b : Barrier). Serves b) (barrier-same (barrier_of own) (barrier_of opening) same)
own-stage own opening false other = refl

stage-turned : (role : Role) (opening : Opening) → IsTold role
    → stage_after (stage_of role) (barrier_of opening) ≡ stage_of (role_at (turn_of role opening) role opening)
stage-turned Untold opening told = absurd told
stage-turned Following opening told = refl
stage-turned (Beginning own) opening told = own-stage own opening (is_barrier (barrier_of own) (barrier_of opening)) refl
stage-turned (Serving own) opening told = refl

-- and what the bridge knows then
module _ (machine : Machine) (count : Count) (opening : Opening) (shard : ℕ) where
  own-known : (own : Opening) (log : LogState) → machine.journals shard ≡ count.histories shard ++ log.beyond → (is : Bool)
      → IsKnown (role_at (if is then Starts else Yields) (Beginning own) opening) (log_after (if is then Starts else Yields) log)
      (count.histories shard) (turned machine count machine.journals) shard
  own-known own log known true =
      let has : IsPrefix (count.histories shard) (machine.journals shard) = record { remainder = log.beyond; is = sym known } in (
        prefix-is_take (count.histories shard) (machine.journals shard) has ∙ sym (append-nil (count.histories shard)),
        prefix-length (count.histories shard) (machine.journals shard) has,
      )
  own-known own log known false = known

  known-turned : (role : Role) (log : LogState) → IsTold role → IsKnown role log (count.histories shard) machine shard
      → IsKnown (role_at (turn_of role opening) role opening) (log_after (turn_of role opening) log) (count.histories shard)
      (turned machine count machine.journals) shard
  known-turned Untold log told known = absurd told
  known-turned Following log told known = known
  known-turned (Beginning own) log told known = own-known own log known (is_barrier (barrier_of own) (barrier_of opening))
  known-turned (Serving own) log told known =
      prefix-trans (count.histories shard ++ log.beyond) (take (machine.known shard) (machine.journals shard)) (machine.journals shard)
      (prefix-same (count.histories shard ++ log.beyond) (take (machine.known shard) (machine.journals shard)) (sym known.0))
      (prefix-take (machine.known shard) (machine.journals shard))

count-after : (turn : Turn) (log : LogState) → (log_after turn log).count ≡ log.count
count-after Nothing log = refl
count-after Starts log = refl
count-after Ends log = refl
count-after Yields log = refl

-- a barrier that counts
pub reads-barrier : (bridge : BridgeState) (opening : Opening) → IsTold bridge.role → opening.number ≡ bridge.last.number + 1
    → ReadsMessage bridge (opened bridge opening) (OfBarrier (barrier_of opening)) (λ journals. journals)
reads-barrier bridge opening told number world stands comes =
    let machine = world.machines bridge.machine in
    let count = count_at world machine.read in
    let barrier = barrier_of opening in
    let turn = turn_of bridge.role opening in
    let counts : is_next count.barrier barrier ≡ true =
    eq-eqb opening.number (count.barrier.number + 1) (number ∙ ap (λ (b : Barrier). b.number + 1) (sym stands.last)) in
    let last : (next_count count (OfBarrier barrier)).barrier ≡ barrier =
    cond-true (is_next count.barrier barrier) barrier count.barrier counts in
    does-read (opened bridge opening) world (OfBarrier barrier) comes machine.journals
    (turned machine (next_count count (OfBarrier barrier)) machine.journals)
    (cond-true (is_next count.barrier barrier) (turned machine (next_count count (OfBarrier barrier)) machine.journals)
    (record machine { read = machine.read + 1 }) counts) refl
    (λ shard. inl (known-counts bridge.role (log_at bridge.logs shard) (count.histories shard) machine shard (stands.known shard), refl))
    (record {
      last = last;
      stage = (λ i. stage_after (stands.stage i) (last i)) ∙ stage-turned bridge.role opening told;
      counts = λ shard. ap (λ (log : LogState). log.count) (turned-at turn bridge.logs shard) ∙ count-after turn (log_at bridge.logs shard)
          ∙ stands.counts shard;
      known = λ shard.
          subst (λ (log : LogState). IsKnown (role_at turn bridge.role opening) log (count.histories shard)
          (turned machine (next_count count (OfBarrier barrier)) machine.journals) shard) (sym (turned-at turn bridge.logs shard))
          (known-turned machine (next_count count (OfBarrier barrier)) opening shard bridge.role (log_at bridge.logs shard) told (stands.known shard));
      held = refl;
    })

-- a barrier that doesn't count
pub reads-other_barrier : (bridge : BridgeState) (opening : Opening) → (opening.number ≡ bridge.last.number + 1 → ⊥)
    → ReadsMessage bridge bridge (OfBarrier (barrier_of opening)) (λ journals. journals)
reads-other_barrier bridge opening other world stands comes =
    let machine = world.machines bridge.machine in
    let count = count_at world machine.read in
    let barrier = barrier_of opening in
    let closed : is_next count.barrier barrier ≡ false =
    ne_eqb opening.number (count.barrier.number + 1) (λ same. other (same ∙ ap (λ (b : Barrier). b.number + 1) stands.last)) in
    does-read bridge world (OfBarrier barrier) comes machine.journals (record machine { read = machine.read + 1 })
    (cond-false (is_next count.barrier barrier) (turned machine (next_count count (OfBarrier barrier)) machine.journals)
    (record machine { read = machine.read + 1 }) closed) refl
    (λ shard. inl (known-counts bridge.role (log_at bridge.logs shard) (count.histories shard) machine shard (stands.known shard), refl))
    (record {
      last = cond-false (is_next count.barrier barrier) barrier count.barrier closed ∙ stands.last;
      stage = stands.stage;
      counts = stands.counts;
      known = λ shard. known-same bridge.role (log_at bridge.logs shard) (count.histories shard) machine
          (record machine { read = machine.read + 1 }) shard refl refl (stands.known shard);
      held = stands.held;
    })
