-- One more message in the stream.
use Rattle.std.proofs.Common.{◌≡◌, ℕ, ◌+◌, ◌≤◌, true, List, [], ◌∷◌, ◌++◌, length, Some, refl, ap, sym, ◌∙◌, subst, arith, inl, inr, ◌⊎◌}
use Rattle.std.proofs.Common.{Contains}
use Rattle.std.specs.List.{slice_get, All}
use Rattle.std.proofs.lemmas.Bool.{cases_Bool, cond-true, cond-false, cases_lt, eqb-true}
use Rattle.std.proofs.lemmas.List.{length_push}
use Rattle.std.proofs.lemmas.List.Elements.{All-weaker}
use Rattle.one_history.specs.Prefixes.{IsPrefix}
use Rattle.one_history.specs.Streams.{Text, Word, Barrier, Indexed, Message, OfBarrier, OfRecords, OfMark, OfNothing, Count, no_barrier, is_word, is_next}
use Rattle.one_history.specs.Streams.{next_count, next_history, last_barrier, with_records, CountsNothing}
use Rattle.one_history.specs.Machines.{up_to, Stage, Follows, Begins, Serves, Machine, World, count_at, count_of}
use Rattle.one_history.specs.Events.{Successors, IsLegal}
use Rattle.one_history.proofs.Words.{word-same, cases_word}
use Rattle.one_history.proofs.Prefixed.{prefix-trans, prefix-same}
use Rattle.one_history.proofs.Counts.{history-grows, count-before, count-written, number-last, records-along}
use Rattle.one_history.proofs.Sound.{Logs, IsBeginning, IsAtStage, IsSound, with_log, log-here, log-elsewhere, sound-counts, sound-legal}

-- the world with one more message in its stream
abbrev pub written : World → Message → World
written world message = record world { stream = world.stream ++ message ∷ [] }

module _ (MayFollow : Successors) (world : World) where
  -- each place of the longer stream is one of the stream before, or its end
  pub places-written : (message : Message) (place : ℕ)
      → ((place ≤ length world.stream) × (count_at (written world message) place ≡ count_at world place))
      ⊎ (count_at (written world message) place ≡ next_count (count_of world) message)
  places-written message place = elim (cases_lt (length world.stream) place) [
    | inl past ↦ inr (count-written world.base world.stream message place past)
    | inr within ↦ inl (within, count-before world.base world.stream message place within)
  ]

  module _ (logs : Logs) (sound : IsSound MayFollow world logs) where
    -- any message, by what counts with it
    pub sound-written : (message : Message)
        → (((next_count (count_of world) message).barrier ≡ no_barrier)
        ⊎ Contains world.made (OfBarrier (next_count (count_of world) message).barrier))
        → ((shard : ℕ) → IsPrefix ((next_count (count_of world) message).histories shard)
        (logs (next_count (count_of world) message).barrier.name shard))
        → ((name : Word) (barrier : Barrier) → IsBeginning (count_at world) world.made logs name barrier
        → (next_count (count_of world) message).barrier ≡ barrier
        → (shard : ℕ) → (next_count (count_of world) message).histories shard ≡ logs barrier.name shard)
        → IsSound MayFollow (written world message) logs
    sound-written message barrier logged begins = record {
      names = sound.names;
      logged = record {
        known = sound.logged.known;
        opened = λ name records here.
            let it = sound.logged.opened name records here in (
              it.0,
              let within = it.1 in let long = length_push world.stream message in omega arith,
              ap (λ (count : Count). count.barrier.name) (count-before world.base world.stream message it.0 it.1) ∙ it.2,
            );
        barriers = λ place. elim (places-written message place) [
          | inl before ↦ subst (λ (count : Count). (count.barrier ≡ no_barrier) ⊎ Contains world.made (OfBarrier count.barrier))
              (sym before.1) (sound.logged.barriers place)
          | inr last ↦ subst (λ (count : Count). (count.barrier ≡ no_barrier) ⊎ Contains world.made (OfBarrier count.barrier))
              (sym last) barrier
        ];
        logged = λ place shard. elim (places-written message place) [
          | inl before ↦ subst (λ (count : Count). IsPrefix (count.histories shard) (logs count.barrier.name shard))
              (sym before.1) (sound.logged.logged place shard)
          | inr last ↦ subst (λ (count : Count). IsPrefix (count.histories shard) (logs count.barrier.name shard))
              (sym last) (logged shard)
        ];
        legal = sound.logged.legal;
      };
      sent = All-weaker (λ answer. IsPrefix (up_to answer) ((count_of world).histories answer.shard))
          (λ answer. IsPrefix (up_to answer) ((count_of (written world message)).histories answer.shard))
          (λ answer counts. prefix-trans (up_to answer) ((count_of world).histories answer.shard)
          ((count_of (written world message)).histories answer.shard) counts (end-grows answer.shard))
          world.sent sound.sent;
      machines = λ name.
          let it = sound.machines name in
          record {
            kept = it.kept;
            read = let within = it.read in let long = length_push world.stream message in omega arith;
            journals = λ shard. subst (λ (count : Count). IsPrefix (count.histories shard) ((world.machines name).journals shard))
                (sym (count-before world.base world.stream message (world.machines name).read it.read)) (it.journals shard);
            legal = it.legal;
            stage = at_stage name (world.machines name) it.read (world.machines name).stage it.stage;
          };
    }
      where
        end-is : count_of (written world message) ≡ next_count (count_of world) message
        end-is =
            let long = length_push world.stream message in
            count-written world.base world.stream message (length (world.stream ++ message ∷ [])) (omega arith)

        end-grows : (shard : ℕ) → IsPrefix ((count_of world).histories shard) ((count_of (written world message)).histories shard)
        end-grows shard =
            subst (λ (count : Count). IsPrefix ((count_of world).histories shard) (count.histories shard)) (sym end-is)
            (history-grows (count_of world).barrier shard ((count_of world).histories shard) message)

        at_stage : (name : Word) (machine : Machine) → machine.read ≤ length world.stream → (stage : Stage)
            → IsAtStage (count_at world) world.made logs name machine stage
            → IsAtStage (count_at (written world message)) world.made logs name machine stage
        at_stage name machine within Follows it = tt
        at_stage name machine within (Begins own) it = record {
          called = it.called;
          own = it.own;
          none = it.none;
          log_is = λ place shard is. elim (places-written message place) [
            | inl before ↦
                ap (λ (count : Count). count.histories shard) before.1
                ∙ it.log_is place shard (sym (ap (λ (count : Count). count.barrier) before.1) ∙ is)
            | inr last ↦
                ap (λ (count : Count). count.histories shard) last
                ∙ begins name own it (sym (ap (λ (count : Count). count.barrier) last) ∙ is) shard
          ];
        }
        at_stage name machine within (Serves own) it = record {
          called = it.called;
          own = it.own;
          last = ap (λ (count : Count). count.barrier) (count-before world.base world.stream message machine.read within) ∙ it.last;
          within = it.within;
          log_is = it.log_is;
          held = it.held;
        }

    -- a message that counts nothing
    pub sound-nothing : (message : Message) → CountsNothing (count_of world) message → IsSound MayFollow (written world message) logs
    sound-nothing message nothing =
        sound-written message
        (subst (λ (barrier : Barrier). (barrier ≡ no_barrier) ⊎ Contains world.made (OfBarrier barrier)) (sym nothing.barrier_stays)
        (sound.logged.barriers (length world.stream)))
        (λ shard. subst (λ (history : List Text). IsPrefix history (logs (last_barrier (count_of world).barrier message).name shard))
        (sym (nothing.histories_stay shard))
        (subst (λ (barrier : Barrier). IsPrefix ((count_of world).histories shard) (logs barrier.name shard)) (sym nothing.barrier_stays)
        (sound.logged.logged (length world.stream) shard)))
        (λ name barrier begins is shard. nothing.histories_stay shard
        ∙ begins.log_is (length world.stream) shard (sym nothing.barrier_stays ∙ is))

    -- records that a machine made, by the name that counts
    sound-records : (name : Word) (records : List Indexed) → Contains world.made (OfRecords name records)
        → is_word name (count_of world).barrier.name ≡ true → IsSound MayFollow (written world (OfRecords name records)) logs
    sound-records name records made is =
        let counts : (shard : ℕ) → with_records shard ((count_of world).histories shard) records
        ≡ next_history (count_of world).barrier shard ((count_of world).histories shard) (OfRecords name records) =
        λ shard. sym (cond-true _ (with_records shard ((count_of world).histories shard) records) ((count_of world).histories shard) is) in
        sound-written (OfRecords name records)
        (sound.logged.barriers (length world.stream))
        (λ shard. subst (λ (history : List Text). IsPrefix history (logs (count_of world).barrier.name shard)) (counts shard)
        (records-along (logs (count_of world).barrier.name) shard ((count_of world).histories shard) records
        (sound.logged.logged (length world.stream) shard)
        (subst (λ (word : Word). All (λ one. slice_get (logs word one.shard) one.index ≡ Some one.text) records)
        (word-same name (count_of world).barrier.name is) (sound.logged.known name records made))))
        (λ own barrier begins same shard. absurd (begins.none records
        (subst (λ (word : Word). Contains world.made (OfRecords word records))
        (word-same name (count_of world).barrier.name is ∙ ap (λ (b : Barrier). b.name) same) made)))

  -- another log under a name that counts nowhere
  sound-relogged : (logs : Logs) → IsSound MayFollow world logs → (name : Word) (log : ℕ → List Text)
      → ((place : ℕ) → (count_at world place).barrier.name ≡ name → ⊥) → ((shard : ℕ) → IsLegal MayFollow shard (log shard))
      → IsSound MayFollow world (with_log logs name log)
  sound-relogged logs sound name log nowhere legal = record {
    names = sound.names;
    logged = record {
      known = λ other records here. elim (cases_word other name) [
        | inl same ↦ let it = sound.logged.opened other records here in absurd (nowhere it.0 (it.2 ∙ same))
        | inr apart ↦
            subst (λ (lines : ℕ → List Text). All (λ one. slice_get (lines one.shard) one.index ≡ Some one.text) records)
            (sym (log-elsewhere logs name log other apart)) (sound.logged.known other records here)
      ];
      opened = sound.logged.opened;
      barriers = sound.logged.barriers;
      logged = λ place shard.
          subst (λ (lines : ℕ → List Text). IsPrefix ((count_at world place).histories shard) (lines shard))
          (sym (log-elsewhere logs name log (count_at world place).barrier.name (nowhere place))) (sound.logged.logged place shard);
      legal = λ other shard. elim (cases_word other name) [
        | inl same ↦ subst (λ (lines : ℕ → List Text). IsLegal MayFollow shard (lines shard)) (sym (log-here logs name log other same)) (legal shard)
        | inr apart ↦ subst (λ (lines : ℕ → List Text). IsLegal MayFollow shard (lines shard))
            (sym (log-elsewhere logs name log other apart)) (sound.logged.legal other shard)
      ];
    };
    sent = sound.sent;
    machines = λ other.
        let it = sound.machines other in
        record {
          kept = it.kept;
          read = it.read;
          journals = it.journals;
          legal = it.legal;
          stage = at_stage other (world.machines other) (world.machines other).stage it.stage;
        };
  }
    where
      at_stage : (other : Word) (machine : Machine) (stage : Stage) → IsAtStage (count_at world) world.made logs other machine stage
          → IsAtStage (count_at world) world.made (with_log logs name log) other machine stage
      at_stage other machine Follows it = tt
      at_stage other machine (Begins own) it = record {
        called = it.called;
        own = it.own;
        none = it.none;
        log_is = λ place shard is.
            let apart : own.name ≡ name → ⊥ = λ same. nowhere place (ap (λ (b : Barrier). b.name) is ∙ same) in
            it.log_is place shard is ∙ sym (ap (λ (lines : ℕ → List Text). lines shard) (log-elsewhere logs name log own.name apart));
      }
      at_stage other machine (Serves own) it =
          let apart : own.name ≡ name → ⊥ = λ same. nowhere machine.read (ap (λ (b : Barrier). b.name) it.last ∙ same) in
          let stays : logs own.name ≡ with_log logs name log own.name = sym (log-elsewhere logs name log own.name apart) in
          record {
            called = it.called;
            own = it.own;
            last = it.last;
            within = it.within;
            log_is = λ shard. sym (ap (λ (lines : ℕ → List Text). lines shard) stays) ∙ it.log_is shard;
            held = subst (λ (lines : ℕ → List Text). All (λ answer. IsPrefix (up_to answer) (lines answer.shard)) machine.held) stays it.held;
          }

  module _ (logs : Logs) (sound : IsSound MayFollow world logs) where
    -- a barrier that was made and counts now has counted nowhere before
    counts-nowhere : (barrier : Barrier) → Contains world.made (OfBarrier barrier) → is_next (count_of world).barrier barrier ≡ true
        → (place : ℕ) → (count_at world place).barrier.name ≡ barrier.name → ⊥
    counts-nowhere barrier made next place same =
        let it = sound-counts MayFollow world logs sound barrier place made same in
        let number = ap (λ (b : Barrier). b.number) it in
        let more = eqb-true barrier.number ((count_of world).barrier.number + 1) next in
        let most = number-last world.base world.stream place in
        omega arith

    sound-barrier : (barrier : Barrier) → Contains world.made (OfBarrier barrier) → is_next (count_of world).barrier barrier ≡ true
        → IsSound MayFollow (written world (OfBarrier barrier)) (with_log logs barrier.name (count_of world).histories)
    sound-barrier barrier made next =
        let counts : barrier ≡ last_barrier (count_of world).barrier (OfBarrier barrier) =
        sym (cond-true (is_next (count_of world).barrier barrier) barrier (count_of world).barrier next) in
        let here = log-here logs barrier.name (count_of world).histories barrier.name refl in
        sound-written (with_log logs barrier.name (count_of world).histories)
        (sound-relogged logs sound barrier.name (count_of world).histories (counts-nowhere barrier made next)
        (sound-legal MayFollow world logs sound (length world.stream)))
        (OfBarrier barrier)
        (inr (subst (λ (b : Barrier). Contains world.made (OfBarrier b)) counts made))
        (λ shard. subst (λ (b : Barrier). IsPrefix ((count_of world).histories shard)
        (with_log logs barrier.name (count_of world).histories b.name shard)) counts
        (prefix-same _ _ (sym (ap (λ (lines : ℕ → List Text). lines shard) here))))
        (λ name other begins same shard.
        sym (ap (λ (lines : ℕ → List Text). lines shard)
        (log-here logs barrier.name (count_of world).histories other.name (ap (λ (b : Barrier). b.name) (sym same ∙ sym counts)))))

    -- a message that a machine made, whatever it is
    pub sound-write : (message : Message) → Contains world.made message → (others : Logs) × IsSound MayFollow (written world message) others
    sound-write (OfBarrier barrier) made =
        elim (cases_Bool (is_next (count_of world).barrier barrier)) [
          | inl next ↦ (with_log logs barrier.name (count_of world).histories, sound-barrier barrier made next)
          | inr other ↦ (
            logs,
            sound-nothing logs sound (OfBarrier barrier) (record {
              barrier_stays = cond-false (is_next (count_of world).barrier barrier) barrier (count_of world).barrier other;
              histories_stay = λ shard. refl;
            }),
          )
        ]
    sound-write (OfRecords name records) made =
        elim (cases_Bool (is_word name (count_of world).barrier.name)) [
          | inl own ↦ (logs, sound-records logs sound name records made own)
          | inr other ↦ (
            logs,
            sound-nothing logs sound (OfRecords name records) (record {
              barrier_stays = refl;
              histories_stay = λ shard. cond-false (is_word name (count_of world).barrier.name)
                  (with_records shard ((count_of world).histories shard) records) ((count_of world).histories shard) other;
            }),
          )
        ]
    sound-write (OfMark word) made =
        (logs, sound-nothing logs sound (OfMark word) (record { barrier_stays = refl; histories_stay = λ shard. refl }))
    sound-write OfNothing made =
        (logs, sound-nothing logs sound OfNothing (record { barrier_stays = refl; histories_stay = λ shard. refl }))
