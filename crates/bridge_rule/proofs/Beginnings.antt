-- A bridge begins from a position.
use Rattle.std.proofs.Common.{◌≡◌, ℕ, List, [], ◌∷◌, ◌++◌, map, get_or, refl, ap, sym, ◌∙◌, subst, zero, suc}
use Rattle.std.proofs.lemmas.List.{append-nil}
use Rattle.one_history.specs.Prefixes.{IsPrefix}
use Rattle.one_history.specs.Streams.{Text, Word}
use Rattle.one_history.specs.Machines.{World, count_at}
use Rattle.one_history.specs.Events.{KeepsPosition, Crash, next, started}
use Rattle.one_history.proofs.Prefixed.{prefix-of_take}
use Rattle.bridge_rule.specs.declared.opening.Opening.{Opening}
use Rattle.bridge_rule.specs.Logs.{new_log}
use Rattle.bridge_rule.specs.Bridges.{StandsIn, log_at, new_bridge}
use Rattle.bridge_rule.specs.Events.{IsPosition}
use Rattle.bridge_rule.proofs.Standing.{stands-here}

-- a new log has its count, and knows nothing beyond it
new-count : (room : ℕ) (counts : List ℕ) (shard : ℕ) → (log_at (map (λ (count : ℕ). new_log count room) counts) shard).count ≡ get_or counts shard 0
new-count room [] shard = refl
new-count room (count ∷ counts) zero = refl
new-count room (count ∷ counts) (suc shard) = new-count room counts shard

new-beyond : (room : ℕ) (counts : List ℕ) (shard : ℕ) → (log_at (map (λ (count : ℕ). new_log count room) counts) shard).beyond ≡ []
new-beyond room [] shard = refl
new-beyond room (count ∷ counts) zero = refl
new-beyond room (count ∷ counts) (suc shard) = new-beyond room counts shard

pub begins : (name : Word) (last : Opening) (counts : List ℕ) (room waiting : ℕ) (world : World) (keep : ℕ → ℕ)
    → KeepsPosition world (world.machines name) keep → IsPosition world name last counts
    → StandsIn (new_bridge name last counts room waiting) (next world (Crash name keep))
begins name last counts room waiting world keep keeps position =
    let machine = world.machines name in
    let bridge = new_bridge name last counts room waiting in
    let count = count_at world machine.kept in
    stands-here bridge world (started machine keep) (record {
      last = position.last_is;
      stage = refl;
      counts = λ shard. new-count room counts shard ∙ position.counts_are shard;
      known = λ shard.
          subst (λ (l : List Text). IsPrefix l ((started machine keep).journals shard))
          (sym (ap (λ (l : List Text). count.histories shard ++ l) (new-beyond room counts shard) ∙ append-nil (count.histories shard)))
          (prefix-of_take (keep shard) (count.histories shard) (machine.journals shard) (position.journals shard) (keeps shard));
      held = refl;
    })
