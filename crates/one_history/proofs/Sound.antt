-- The invariant of every run.
use Rattle.std.proofs.Common.{◌≡◌, ◌≢◌, ℕ, ◌≤◌, false, List, [], length, take, Some, ap, sym, ◌∙◌, subst, inl, inr, ◌⊎◌}
use Rattle.std.proofs.Common.{Contains, if◌then◌else◌}
use Rattle.std.specs.List.{slice_get, All}
use Rattle.std.proofs.lemmas.Bool.{cases_Bool, cond-true, cond-false}
use Rattle.one_history.specs.Prefixes.{IsPrefix}
use Rattle.one_history.specs.Streams.{Text, Word, Barrier, Indexed, Message, OfBarrier, OfRecords, Count, no_barrier, is_word}
use Rattle.one_history.specs.Machines.{up_to, Stage, Follows, Begins, Serves, Machine, World, count_at, count_of, with_machine}
use Rattle.one_history.specs.Events.{Successors, IsLegal}
use Rattle.one_history.proofs.Words.{word-same, word-is, word-apart}
use Rattle.one_history.proofs.Legal.{legal-prefix}

-- the log of each barrier's name: the records of each shard that messages with this name have or may have
abbrev pub Logs : Type 0
Logs = Word → ℕ → List Text

-- the barriers that were made have names of their own
pub record AreNamed (made : List Message) (names : List Word) : Type 0 where
  pub named : (barrier : Barrier) → Contains made (OfBarrier barrier) → Contains names barrier.name
  pub not_empty : (barrier : Barrier) → Contains made (OfBarrier barrier) → barrier.name ≢ []
  pub one : (first second : Barrier) → Contains made (OfBarrier first) → Contains made (OfBarrier second)
      → first.name ≡ second.name → first ≡ second

-- what counts at each place of the stream, what was made, and the logs agree
pub record AreLogged (MayFollow : Successors) (counts : ℕ → Count) (size : ℕ) (made : List Message) (logs : Logs)
    : Type 0 where
  -- each record of a message that was made is at its index in the log of the message's name
  pub known : (name : Word) (records : List Indexed) → Contains made (OfRecords name records)
      → All (λ one. slice_get (logs name one.shard) one.index ≡ Some one.text) records
  -- that name was once the one of the last barrier that counts
  pub opened : (name : Word) (records : List Indexed) → Contains made (OfRecords name records)
      → (place : ℕ) × (place ≤ size) × ((counts place).barrier.name ≡ name)
  -- the barrier that counts is the first one, or was made
  pub barriers : (place : ℕ) → ((counts place).barrier ≡ no_barrier) ⊎ Contains made (OfBarrier (counts place).barrier)
  -- what counts is a prefix of the log of the barrier that counts
  pub logged : (place shard : ℕ) → IsPrefix ((counts place).histories shard) (logs (counts place).barrier.name shard)
  pub legal : (name : Word) (shard : ℕ) → IsLegal MayFollow shard (logs name shard)

-- a machine that waits for its barrier: it has made no record by its name, and where the barrier counts the log is what counts
pub record IsBeginning (counts : ℕ → Count) (made : List Message) (logs : Logs) (name : Word) (barrier : Barrier) : Type 0 where
  pub called : Contains made (OfBarrier barrier)
  pub own : barrier.machine ≡ name
  pub none : (records : List Indexed) → Contains made (OfRecords barrier.name records) → ⊥
  pub log_is : (place shard : ℕ) → (counts place).barrier ≡ barrier → (counts place).histories shard ≡ logs barrier.name shard

-- a machine that serves: the log of its barrier is what its bridge knows of its journals
pub record IsInService (counts : ℕ → Count) (made : List Message) (logs : Logs) (name : Word) (machine : Machine) (barrier : Barrier)
    : Type 0 where
  pub called : Contains made (OfBarrier barrier)
  pub own : barrier.machine ≡ name
  pub last : (counts machine.read).barrier ≡ barrier
  pub within : (shard : ℕ) → machine.known shard ≤ length (machine.journals shard)
  pub log_is : (shard : ℕ) → logs barrier.name shard ≡ take (machine.known shard) (machine.journals shard)
  pub held : All (λ answer. IsPrefix (up_to answer) (logs barrier.name answer.shard)) machine.held

abbrev pub IsAtStage : (counts : ℕ → Count) → List Message → Logs → Word → Machine → Stage → Type 0
IsAtStage counts made logs name machine Follows = Unit {0}
IsAtStage counts made logs name machine (Begins barrier) = IsBeginning counts made logs name barrier
IsAtStage counts made logs name machine (Serves barrier) = IsInService counts made logs name machine barrier

pub record IsSoundMachine (MayFollow : Successors) (counts : ℕ → Count) (size : ℕ) (made : List Message) (logs : Logs)
    (name : Word) (machine : Machine) : Type 0 where
  pub kept : machine.kept ≤ machine.read
  pub read : machine.read ≤ size
  pub journals : (shard : ℕ) → IsPrefix ((counts machine.read).histories shard) (machine.journals shard)
  pub legal : (shard : ℕ) → IsLegal MayFollow shard (machine.journals shard)
  pub stage : IsAtStage counts made logs name machine machine.stage

-- what is sure of a world, with these logs
pub record IsSound (MayFollow : Successors) (world : World) (logs : Logs) : Type 0 where
  pub names : AreNamed world.made world.names
  pub logged : AreLogged MayFollow (count_at world) (length world.stream) world.made logs
  pub sent : All (λ answer. IsPrefix (up_to answer) ((count_of world).histories answer.shard)) world.sent
  pub machines : (name : Word) → IsSoundMachine MayFollow (count_at world) (length world.stream) world.made logs name (world.machines name)

-- what holds of one machine, and of each other one as it was, holds of each after the one was replaced
pub each-machine : (Holds : Word → Machine → Type 0) (world : World) (name : Word) (machine : Machine)
    → ((other : Word) → (other ≡ name → ⊥) → Holds other (world.machines other)) → Holds name machine
    → (other : Word) → Holds other ((with_machine world name machine).machines other)
each-machine Holds world name machine others one other =
    elim (cases_Bool (is_word other name)) [
      | inl is ↦
          subst (Holds other) (sym (cond-true (is_word other name) machine (world.machines other) is))
          (subst (λ (word : Word). Holds word machine) (sym (word-same other name is)) one)
      | inr apart ↦
          subst (Holds other) (sym (cond-false (is_word other name) machine (world.machines other) apart))
          (others other (word-apart other name apart))
    ]

-- these logs with another one for a name
abbrev pub with_log : Logs → Word → (ℕ → List Text) → Logs
with_log logs name log other = if is_word other name then log else logs other

pub log-here : (logs : Logs) (name : Word) (log : ℕ → List Text) (other : Word) → other ≡ name → with_log logs name log other ≡ log
log-here logs name log other same = cond-true (is_word other name) log (logs other) (word-is other name same)

pub log-elsewhere : (logs : Logs) (name : Word) (log : ℕ → List Text) (other : Word) → (other ≡ name → ⊥)
    → with_log logs name log other ≡ logs other
log-elsewhere logs name log other apart = cond-false (is_word other name) log (logs other) (false-word other name apart)
  where
    false-word : (one two : Word) → (one ≡ two → ⊥) → is_word one two ≡ false
    false-word one two apart = elim (cases_Bool (is_word one two)) [
      | inl is ↦ absurd (apart (word-same one two is))
      | inr not_it ↦ not_it
    ]

module _ (MayFollow : Successors) (world : World) (logs : Logs) (sound : IsSound MayFollow world logs) where
  -- what counts is legal
  pub sound-legal : (place shard : ℕ) → IsLegal MayFollow shard ((count_at world place).histories shard)
  sound-legal place shard =
      legal-prefix MayFollow shard ((count_at world place).histories shard) (logs (count_at world place).barrier.name shard)
      (sound.logged.logged place shard) (sound.logged.legal (count_at world place).barrier.name shard)

  -- a barrier of a machine that was made and whose name counts somewhere is the one that counts there
  pub sound-counts : (barrier : Barrier) (place : ℕ) → Contains world.made (OfBarrier barrier)
      → (count_at world place).barrier.name ≡ barrier.name → (count_at world place).barrier ≡ barrier
  sound-counts barrier place made same =
      elim (sound.logged.barriers place) [
        | inl first ↦ absurd (sound.names.not_empty barrier made (sym same ∙ ap (λ (b : Barrier). b.name) first))
        | inr other ↦ sound.names.one (count_at world place).barrier barrier other made same
      ]

  -- only one machine changes, and neither the stream nor what was made
  pub sound-machine : (name : Word) (machine : Machine)
      → IsSoundMachine MayFollow (count_at world) (length world.stream) world.made logs name machine
      → IsSound MayFollow (with_machine world name machine) logs
  sound-machine name machine one = record {
    names = sound.names;
    logged = sound.logged;
    sent = sound.sent;
    machines = each-machine (IsSoundMachine MayFollow (count_at world) (length world.stream) world.made logs) world name machine
        (λ other apart. sound.machines other) one;
  }
