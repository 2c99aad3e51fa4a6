-- A machine in a world after an event of its own, and the bridge that stands for it.
use Rattle.std.proofs.Common.{◌≡◌, ℕ, ◌+◌, List, refl, ap, sym, ◌∙◌, subst}
use Rattle.std.proofs.lemmas.Bool.{cond-true}
use Rattle.one_history.specs.Streams.{Text, Word, Message, Count, is_word, next_count}
use Rattle.one_history.specs.Machines.{Machine, World, count_at, next_message, with_machine}
use Rattle.one_history.specs.Events.{IsSettled, Read, next, reads}
use Rattle.one_history.proofs.Words.{word-is}
use Rattle.one_history.proofs.Counts.{count-next}
use Rattle.bridge_rule.specs.Bridges.{BridgeState, StandsFor, StandsIn}
use Rattle.bridge_rule.specs.Events.{IsNext, DoesRead}

-- a machine that was replaced is there
pub machine-here : (world : World) (name : Word) (machine : Machine) → (with_machine world name machine).machines name ≡ machine
machine-here world name machine = cond-true (is_word name name) machine (world.machines name) (word-is name name refl)

-- the bridge stands for the machine that replaced its machine
pub stands-here : (bridge : BridgeState) (world : World) (machine : Machine) → StandsFor bridge (count_at world machine.read) machine
    → StandsIn bridge (with_machine world bridge.machine machine)
stands-here bridge world machine stands =
    subst (λ (other : Machine). StandsFor bridge (count_at world other.read) other) (sym (machine-here world bridge.machine machine)) stands

-- a machine reads its next message
pub does-read : (bridge : BridgeState) (world : World) (message : Message) → IsNext world bridge.machine message
    → (journals : ℕ → List Text) (machine : Machine)
    → reads (world.machines bridge.machine) (count_at world (world.machines bridge.machine).read) message journals ≡ machine
    → machine.read ≡ (world.machines bridge.machine).read + 1
    → ((shard : ℕ) → IsSettled ((next_count (count_at world (world.machines bridge.machine).read) message).histories shard)
    ((world.machines bridge.machine).journals shard) (journals shard))
    → StandsFor bridge (next_count (count_at world (world.machines bridge.machine).read) message) machine
    → DoesRead bridge world journals
does-read bridge world message is_next journals machine machine_is read_is settled stands =
    let before = world.machines bridge.machine in
    let count = count_at world before.read in
    let here : (next world (Read bridge.machine journals)).machines bridge.machine ≡ machine =
    machine-here world bridge.machine (reads before count (next_message world before) journals)
    ∙ ap (λ (other : Message). reads before count other journals) is_next.message_is ∙ machine_is in
    let counts : next_count count message ≡ count_at world machine.read =
    sym (ap (count_at world) read_is ∙ count-next world.base world.stream before.read is_next.unread
    ∙ ap (next_count count) is_next.message_is) in
    record {
      can = record {
        unread = is_next.unread;
        settled = λ shard. subst (λ (other : Message). IsSettled ((next_count count other).histories shard) (before.journals shard) (journals shard))
            (sym is_next.message_is) (settled shard);
      };
      stands = subst (λ (other : Machine). StandsFor bridge (count_at world other.read) other) (sym here)
          (subst (λ (other : Count). StandsFor bridge other machine) counts stands);
    }
