-- A machine reads the stream's next message.
use Rattle.std.proofs.Common.{◌<◌, ◌≡◌, ℕ, ◌+◌, ◌≤◌, false, List, length, take, ap, sym, ◌∙◌, subst, arith, inl, inr}
use Rattle.std.proofs.lemmas.Bool.{cond_both}
use Rattle.std.proofs.lemmas.List.Elements.{All-nil}
use Rattle.one_history.specs.Prefixes.{IsPrefix}
use Rattle.one_history.specs.Streams.{Text, Word, Barrier, Count, opens, is_barrier, next_count}
use Rattle.one_history.specs.Machines.{Answer, up_to, Stage, Follows, Begins, Serves, World, count_at, with_machine, next_message}
use Rattle.one_history.specs.Events.{Successors, IsLegal, IsSettled, count_with_next, CanRead, reads, turned, stage_after}
use Rattle.one_history.proofs.Words.{barrier-same}
use Rattle.one_history.proofs.Prefixed.{prefix-trans, prefix-same, prefix-take, prefix-length, prefix-is_take}
use Rattle.one_history.proofs.Legal.{legal-same}
use Rattle.one_history.proofs.Counts.{count-next, last-stays}
use Rattle.one_history.proofs.Moves.{in-service}
use Rattle.one_history.proofs.Sound.{Logs, IsAtStage, IsSoundMachine, IsSound, sound-machine, sound-legal}

-- a settled journal begins with what counts
pub settled-counts : (counts old new : List Text) → IsSettled counts old new → IsPrefix counts new
settled-counts counts old new settled = elim settled [
  | inl stays ↦ subst (IsPrefix counts) (sym stays.1) stays.0
  | inr becomes ↦ prefix-same counts new (sym becomes.1)
]

-- a journal that has what counts stays
pub settled-stays : (counts old new : List Text) → IsSettled counts old new → IsPrefix counts old → new ≡ old
settled-stays counts old new settled prefix = elim settled [
  | inl stays ↦ stays.1
  | inr becomes ↦ absurd (becomes.0 prefix)
]

module _ (MayFollow : Successors) (world : World) (logs : Logs) (sound : IsSound MayFollow world logs)
    (name : Word) (journals : ℕ → List Text) (can : CanRead world name journals) where
  -- what counts before the message, and with it
  abbrev before : Count
  before = count_at world (world.machines name).read

  abbrev read : Count
  read = next_count before (next_message world (world.machines name))

  read-is : count_at world ((world.machines name).read + 1) ≡ read
  read-is = count-next world.base world.stream (world.machines name).read can.unread

  settled-legal : (shard : ℕ) → IsLegal MayFollow shard (journals shard)
  settled-legal shard = elim (can.settled shard) [
    | inl stays ↦ legal-same MayFollow shard ((world.machines name).journals shard) (journals shard) (sym stays.1)
        ((sound.machines name).legal shard)
    | inr becomes ↦
        legal-same MayFollow shard (read.histories shard) (journals shard) (sym becomes.1)
        (subst (λ (count : Count). IsLegal MayFollow shard (count.histories shard)) read-is
        (sound-legal MayFollow world logs sound ((world.machines name).read + 1) shard))
  ]

  -- what counts with the message is a prefix of the log of the barrier that counts then
  read-logged : (shard : ℕ) → IsPrefix (read.histories shard) (logs read.barrier.name shard)
  read-logged shard =
      subst (λ (count : Count). IsPrefix (count.histories shard) (logs count.barrier.name shard)) read-is
      (sound.logged.logged ((world.machines name).read + 1) shard)

  -- no barrier counts: where it serves, nothing of its journals is truncated
  read-on : opens before.barrier (next_message world (world.machines name)) ≡ false → (stage : Stage)
      → IsAtStage (count_at world) world.made logs name (world.machines name) stage
      → IsAtStage (count_at world) world.made logs name (record (world.machines name) { read = (world.machines name).read + 1; journals = journals })
      stage
  read-on other Follows it = tt
  read-on other (Begins own) it = it
  read-on other (Serves own) it =
      let machine = world.machines name in
      let same : read.barrier ≡ own = last-stays before.barrier (next_message world machine) other ∙ it.last in
      let has : (shard : ℕ) → IsPrefix (read.histories shard) (machine.journals shard) =
      λ shard. prefix-trans (read.histories shard) (take (machine.known shard) (machine.journals shard)) (machine.journals shard)
      (subst (IsPrefix (read.histories shard)) (ap (λ (b : Barrier). logs b.name shard) same ∙ it.log_is shard) (read-logged shard))
      (prefix-take (machine.known shard) (machine.journals shard)) in
      let stays : (shard : ℕ) → journals shard ≡ machine.journals shard =
      λ shard. settled-stays (read.histories shard) (machine.journals shard) (journals shard) (can.settled shard) (has shard) in
      record {
        called = it.called;
        own = it.own;
        last = ap (λ (count : Count). count.barrier) read-is ∙ same;
        within = λ shard. let below = it.within shard in let long = ap (λ (l : List Text). length l) (stays shard) in omega arith;
        log_is = λ shard. it.log_is shard ∙ ap (λ (l : List Text). take (machine.known shard) l) (sym (stays shard));
        held = it.held;
      }

  -- a barrier counts: if it is the machine's own, the log of its name is what counts
  turn : (stage : Stage) → IsAtStage (count_at world) world.made logs name (world.machines name) stage
      → IsAtStage (count_at world) world.made logs name (turned (world.machines name) read journals) (stage_after stage read.barrier)
  turn Follows it = tt
  turn (Begins own) it =
      cond_both (is_barrier own read.barrier) (Serves own) Follows
      (λ (stage : Stage). IsAtStage (count_at world) world.made logs name (turned (world.machines name) read journals) stage)
      (λ is.
      let same : own ≡ read.barrier = barrier-same own read.barrier is in
      let last : (count_at world ((world.machines name).read + 1)).barrier ≡ own = ap (λ (count : Count). count.barrier) read-is ∙ sym same in
      let has : (shard : ℕ) → IsPrefix (read.histories shard) (journals shard) =
      λ shard. settled-counts (read.histories shard) ((world.machines name).journals shard) (journals shard) (can.settled shard) in
      record {
        called = it.called;
        own = it.own;
        last = last;
        within = λ shard. prefix-length (read.histories shard) (journals shard) (has shard);
        log_is = λ shard.
            sym (it.log_is ((world.machines name).read + 1) shard last) ∙ ap (λ (count : Count). count.histories shard) read-is
            ∙ sym (prefix-is_take (read.histories shard) (journals shard) (has shard));
        held = All-nil (λ (answer : Answer). IsPrefix (up_to answer) (logs own.name answer.shard));
      })
      (λ other. tt)
  turn (Serves own) it = tt

  pub sound-read : IsSound MayFollow (with_machine world name (reads (world.machines name) before (next_message world (world.machines name)) journals)) logs
  sound-read =
      sound-machine MayFollow world logs sound name (reads (world.machines name) before (next_message world (world.machines name)) journals)
      (cond_both (opens before.barrier (next_message world (world.machines name))) (turned (world.machines name) read journals)
      (record (world.machines name) { read = (world.machines name).read + 1; journals = journals })
      (IsSoundMachine MayFollow (count_at world) (length world.stream) world.made logs name)
      (λ counts. record {
        kept = kept_below;
        read = let unread = can.unread in omega arith;
        journals = has;
        legal = settled-legal;
        stage = turn (world.machines name).stage (sound.machines name).stage;
      })
      (λ other. record {
        kept = kept_below;
        read = let unread = can.unread in omega arith;
        journals = has;
        legal = settled-legal;
        stage = read-on other (world.machines name).stage (sound.machines name).stage;
      }))
    where
      kept_below : (world.machines name).kept ≤ (world.machines name).read + 1
      kept_below = let below = (sound.machines name).kept in omega arith

      has : (shard : ℕ) → IsPrefix ((count_at world ((world.machines name).read + 1)).histories shard) (journals shard)
      has shard =
          subst (λ (count : Count). IsPrefix (count.histories shard) (journals shard)) (sym read-is)
          (settled-counts (read.histories shard) ((world.machines name).journals shard) (journals shard) (can.settled shard))

-- a machine that serves and reads a message that is no barrier knows all that counts with it
pub serving-has : (MayFollow : Successors) (world : World) (logs : Logs) → IsSound MayFollow world logs → (name : Word) (barrier : Barrier)
    → (world.machines name).stage ≡ Serves barrier → (world.machines name).read < length world.stream
    → opens (count_at world (world.machines name).read).barrier (next_message world (world.machines name)) ≡ false
    → (shard : ℕ) → IsPrefix ((count_with_next world (world.machines name)).histories shard)
    (take ((world.machines name).known shard) ((world.machines name).journals shard))
serving-has MayFollow world logs sound name barrier serves unread other shard =
    let machine = world.machines name in
    let facts = in-service (count_at world) world.made logs name machine machine.stage barrier serves (sound.machines name).stage in
    let read : count_at world (machine.read + 1) ≡ count_with_next world machine = count-next world.base world.stream machine.read unread in
    let same : (count_with_next world machine).barrier ≡ barrier =
    last-stays (count_at world machine.read).barrier (next_message world machine) other ∙ facts.last in
    subst (IsPrefix ((count_with_next world machine).histories shard)) (ap (λ (b : Barrier). logs b.name shard) same ∙ facts.log_is shard)
    (subst (λ (count : Count). IsPrefix (count.histories shard) (logs count.barrier.name shard)) read
    (sound.logged.logged (machine.read + 1) shard))
