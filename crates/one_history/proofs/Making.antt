-- A machine makes a barrier or a message of records, or its bridge reads on in its journals.
use Rattle.std.proofs.Common.{◌≡◌, ◌≢◌, ℕ, List, [], ◌∷◌, ◌++◌, length, take, Some, refl, ap, sym, ◌∙◌, subst, inl, inr, ◌⊎◌}
use Rattle.std.proofs.Common.{Contains}
use Rattle.std.specs.List.{slice_get, All}
use Rattle.std.proofs.lemmas.List.{take-take}
use Rattle.std.proofs.lemmas.List.Elements.{All-weaker, Contains-append_left, Contains-push, Contains-push_cases}
use Rattle.one_history.specs.Prefixes.{IsPrefix}
use Rattle.one_history.specs.Streams.{Text, Word, Barrier, Indexed, Message, OfBarrier, OfRecords}
use Rattle.one_history.specs.Machines.{Answer, up_to, Stage, Follows, Begins, Serves, Machine, World, count_at, with_machine, Knows}
use Rattle.one_history.specs.Events.{Successors, IsServing, CanCall, CanLook, CanPublish, calls, after_call, name_of}
use Rattle.one_history.proofs.Words.{cases_word}
use Rattle.one_history.proofs.Prefixed.{prefix-trans, prefix-same, prefix-take, prefix-get}
use Rattle.one_history.proofs.Legal.{legal-prefix, legal-same}
use Rattle.one_history.proofs.Sound.{Logs, IsBeginning, IsInService, IsAtStage, IsSoundMachine, IsSound, each-machine, with_log, log-here, log-elsewhere}
use Rattle.one_history.proofs.Moves.{serving-here}

-- a barrier that was made before another was, or is that one
barrier-cases : (made : List Message) (barrier other : Barrier) → Contains (made ++ OfBarrier barrier ∷ []) (OfBarrier other)
    → Contains made (OfBarrier other) ⊎ (barrier ≡ other)
barrier-cases made barrier other here = elim (Contains-push_cases made (OfBarrier barrier) (OfBarrier other) here) [
  | inl before ↦ inl before
  | inr same ↦ inr (cc)
]

-- records that were made before a barrier was
records-before : (made : List Message) (barrier : Barrier) (name : Word) (records : List Indexed)
    → Contains (made ++ OfBarrier barrier ∷ []) (OfRecords name records) → Contains made (OfRecords name records)
records-before made barrier name records here = elim (Contains-push_cases made (OfBarrier barrier) (OfRecords name records) here) [
  | inl before ↦ before
  | inr same ↦ cc
]

-- a barrier that was made before records were
barrier-before : (made : List Message) (name : Word) (records : List Indexed) (barrier : Barrier)
    → Contains (made ++ OfRecords name records ∷ []) (OfBarrier barrier) → Contains made (OfBarrier barrier)
barrier-before made name records barrier here = elim (Contains-push_cases made (OfRecords name records) (OfBarrier barrier) here) [
  | inl before ↦ before
  | inr same ↦ cc
]

-- the name and the records of a message that is one of records
message-name : (name other : Word) (records others : List Indexed) → OfRecords name records ≡ OfRecords other others → name ≡ other
message-name name other records others same = cc

message-records : (name other : Word) (records others : List Indexed) → OfRecords name records ≡ OfRecords other others → records ≡ others
message-records name other records others same = cc

module _ (MayFollow : Successors) (world : World) (logs : Logs) (sound : IsSound MayFollow world logs) where
  -- the name of a barrier that a machine waits for, and that of another machine's that serves, differ
  beginning-apart : (other name : Word) (serving : IsServing world name) (barrier : Barrier)
      → (world.machines other).stage ≡ Begins barrier → IsBeginning (count_at world) world.made logs other barrier
      → barrier.name ≡ serving.barrier.name → ⊥
  beginning-apart other name serving barrier stage_is begins same =
      let facts = serving-here MayFollow world logs sound name serving in
      let one : barrier ≡ serving.barrier = sound.names.one barrier serving.barrier begins.called facts.called same in
      let machine : other ≡ name = sym begins.own ∙ ap (λ (b : Barrier). b.machine) one ∙ facts.own in
      let both : Begins barrier ≡ Serves serving.barrier =
      sym stage_is ∙ ap (λ (word : Word). (world.machines word).stage) machine ∙ serving.stage_is in
      cc

  service-apart : (other name : Word) (serving : IsServing world name) (barrier : Barrier) → (other ≡ name → ⊥)
      → IsInService (count_at world) world.made logs other (world.machines other) barrier → barrier.name ≡ serving.barrier.name → ⊥
  service-apart other name serving barrier apart serves same =
      let facts = serving-here MayFollow world logs sound name serving in
      let one : barrier ≡ serving.barrier = sound.names.one barrier serving.barrier serves.called facts.called same in
      apart (sym serves.own ∙ ap (λ (b : Barrier). b.machine) one ∙ facts.own)

  -- a machine makes a barrier of a new name
  module _ (name : Word) (barrier : Barrier) (own : barrier.machine ≡ name) (can : CanCall world barrier.name) where
    -- a barrier that was made before has another name
    unused-name : (other : Barrier) → Contains world.made (OfBarrier other) → barrier.name ≡ other.name → ⊥
    unused-name other made same = can.unused (subst (Contains world.names) (sym same) (sound.names.named other made))

    -- and none of this name counts
    uncounted-name : (place : ℕ) → (count_at world place).barrier.name ≡ barrier.name → ⊥
    uncounted-name place same = elim (sound.logged.barriers place) [
      | inl first ↦ can.not_empty (sym same ∙ ap (λ (b : Barrier). b.name) first)
      | inr made ↦ unused-name (count_at world place).barrier made (sym same)
    ]

    call-stage : (other : Word) (machine : Machine) (stage : Stage) → IsAtStage (count_at world) world.made logs other machine stage
        → IsAtStage (count_at world) (world.made ++ OfBarrier barrier ∷ []) logs other machine stage
    call-stage other machine Follows it = tt
    call-stage other machine (Begins first) it = record {
      called = Contains-append_left world.made (OfBarrier barrier ∷ []) (OfBarrier first) it.called;
      own = it.own;
      none = λ records here. it.none records (records-before world.made barrier first.name records here);
      log_is = it.log_is;
    }
    call-stage other machine (Serves first) it = record {
      called = Contains-append_left world.made (OfBarrier barrier ∷ []) (OfBarrier first) it.called;
      own = it.own;
      last = it.last;
      within = it.within;
      log_is = it.log_is;
      held = it.held;
    }

    pub sound-call : IsSound MayFollow (after_call world name barrier) logs
    sound-call = record {
      names = record {
        named = λ other here. elim (barrier-cases world.made barrier other here) [
          | inl before ↦ Contains-append_left world.names (barrier.name ∷ []) other.name (sound.names.named other before)
          | inr same ↦ subst (λ (b : Barrier). Contains (world.names ++ barrier.name ∷ []) b.name) same (Contains-push world.names barrier.name)
        ];
        not_empty = λ other here. elim (barrier-cases world.made barrier other here) [
          | inl before ↦ sound.names.not_empty other before
          | inr same ↦ subst (λ (b : Barrier). b.name ≢ []) same can.not_empty
        ];
        one = λ first second first_here second_here same.
            elim (barrier-cases world.made barrier first first_here) [
              | inl first_before ↦ elim (barrier-cases world.made barrier second second_here) [
                | inl second_before ↦ sound.names.one first second first_before second_before same
                | inr is ↦ absurd (unused-name first first_before (ap (λ (b : Barrier). b.name) is ∙ sym same))
              ]
              | inr first_is ↦ elim (barrier-cases world.made barrier second second_here) [
                | inl second_before ↦ absurd (unused-name second second_before (ap (λ (b : Barrier). b.name) first_is ∙ same))
                | inr is ↦ sym first_is ∙ is
              ]
            ];
      };
      logged = record {
        known = λ other records here. sound.logged.known other records (records-before world.made barrier other records here);
        opened = λ other records here. sound.logged.opened other records (records-before world.made barrier other records here);
        barriers = λ place. elim (sound.logged.barriers place) [
          | inl first ↦ inl first
          | inr made ↦ inr (Contains-append_left world.made (OfBarrier barrier ∷ []) (OfBarrier (count_at world place).barrier) made)
        ];
        logged = sound.logged.logged;
        legal = sound.logged.legal;
      };
      sent = sound.sent;
      machines = each-machine
          (IsSoundMachine MayFollow (count_at world) (length world.stream) (world.made ++ OfBarrier barrier ∷ []) logs) world name
          (calls (world.machines name) barrier)
          (λ other apart.
          let it = sound.machines other in
          record {
            kept = it.kept;
            read = it.read;
            journals = it.journals;
            legal = it.legal;
            stage = call-stage other (world.machines other) (world.machines other).stage it.stage;
          })
          (let it = sound.machines name in
          record {
            kept = it.kept;
            read = it.read;
            journals = it.journals;
            legal = it.legal;
            stage = record {
              called = Contains-push world.made (OfBarrier barrier);
              own = own;
              none = λ records here.
                  let once = sound.logged.opened barrier.name records (records-before world.made barrier barrier.name records here) in
                  uncounted-name once.0 once.2;
              log_is = λ place shard is. absurd (uncounted-name place (ap (λ (b : Barrier). b.name) is));
            };
          });
    }

  -- the world with one more message of records
  abbrev with_made : Word → List Indexed → World
  with_made name records = record world { made = world.made ++ OfRecords name records ∷ [] }

  sound-published : (name : Word) (records : List Indexed) (serving : IsServing world name)
      → All (Knows (world.machines name)) records → IsSound MayFollow (with_made serving.barrier.name records) logs
  sound-published name records serving known =
      let facts = serving-here MayFollow world logs sound name serving in
      record {
        names = record {
          named = λ other here. sound.names.named other (barrier-before world.made serving.barrier.name records other here);
          not_empty = λ other here. sound.names.not_empty other (barrier-before world.made serving.barrier.name records other here);
          one = λ first second first_here second_here same.
              sound.names.one first second (barrier-before world.made serving.barrier.name records first first_here)
              (barrier-before world.made serving.barrier.name records second second_here) same;
        };
        logged = record {
          known = λ other more here.
              elim (Contains-push_cases world.made (OfRecords serving.barrier.name records) (OfRecords other more) here) [
                | inl before ↦ sound.logged.known other more before
                | inr same ↦
                    let names = message-name serving.barrier.name other records more same in
                    let all = message-records serving.barrier.name other records more same in
                    subst (λ (word : Word). All (λ one. slice_get (logs word one.shard) one.index ≡ Some one.text) more) names
                    (subst (All (λ one. slice_get (logs serving.barrier.name one.shard) one.index ≡ Some one.text)) all
                    (All-weaker (Knows (world.machines name)) (λ one. slice_get (logs serving.barrier.name one.shard) one.index ≡ Some one.text)
                    (λ one knows. subst (λ (l : List Text). slice_get l one.index ≡ Some one.text) (sym (facts.log_is one.shard)) knows)
                    records known))
              ];
          opened = λ other more here.
              elim (Contains-push_cases world.made (OfRecords serving.barrier.name records) (OfRecords other more) here) [
                | inl before ↦ sound.logged.opened other more before
                | inr same ↦ (
                  (world.machines name).read,
                  (sound.machines name).read,
                  ap (λ (b : Barrier). b.name) facts.last ∙ message-name serving.barrier.name other records more same,
                )
              ];
          barriers = λ place. elim (sound.logged.barriers place) [
            | inl first ↦ inl first
            | inr made ↦ inr (Contains-append_left world.made (OfRecords serving.barrier.name records ∷ [])
                (OfBarrier (count_at world place).barrier) made)
          ];
          logged = sound.logged.logged;
          legal = sound.logged.legal;
        };
        sent = sound.sent;
        machines = λ other.
            let it = sound.machines other in
            record {
              kept = it.kept;
              read = it.read;
              journals = it.journals;
              legal = it.legal;
              stage = at_stage other (world.machines other).stage refl it.stage;
            };
      }
    where
      at_stage : (other : Word) (stage : Stage) → (world.machines other).stage ≡ stage
          → IsAtStage (count_at world) world.made logs other (world.machines other) stage
          → IsAtStage (count_at world) (world.made ++ OfRecords serving.barrier.name records ∷ []) logs other (world.machines other) stage
      at_stage other Follows is it = tt
      at_stage other (Begins first) is it = record {
        called = Contains-append_left world.made (OfRecords serving.barrier.name records ∷ []) (OfBarrier first) it.called;
        own = it.own;
        none = λ more here.
            elim (Contains-push_cases world.made (OfRecords serving.barrier.name records) (OfRecords first.name more) here) [
              | inl before ↦ it.none more before
              | inr same ↦ beginning-apart other name serving first is it (sym (message-name serving.barrier.name first.name records more same))
            ];
        log_is = it.log_is;
      }
      at_stage other (Serves first) is it = record {
        called = Contains-append_left world.made (OfRecords serving.barrier.name records ∷ []) (OfBarrier first) it.called;
        own = it.own;
        last = it.last;
        within = it.within;
        log_is = it.log_is;
        held = it.held;
      }

  pub sound-publish : (name : Word) (records : List Indexed) → CanPublish world name records
      → IsSound MayFollow (with_made (name_of (world.machines name).stage) records) logs
  sound-publish name records can =
      subst (λ (stage : Stage). IsSound MayFollow (with_made (name_of stage) records) logs) (sym can.serving.stage_is)
      (sound-published name records can.serving can.known)

  -- a bridge reads on in its journals: the log of its barrier is what it knows now
  module _ (name : Word) (known : ℕ → ℕ) (can : CanLook world name known) where
    -- what it knows now, under the name of its barrier
    looked : ℕ → List Text
    looked shard = take (known shard) ((world.machines name).journals shard)

    -- the logs after it
    pub looked-logs : Logs
    looked-logs = with_log logs can.serving.barrier.name looked

    -- each log only grows
    looked-grows : (word : Word) (shard : ℕ) → IsPrefix (logs word shard) (looked-logs word shard)
    unfolding looked looked-logs
    looked-grows word shard = elim (cases_word word can.serving.barrier.name) [
      | inl same ↦
          let facts = serving-here MayFollow world logs sound name can.serving in
          let machine = world.machines name in
          subst (λ (lines : ℕ → List Text). IsPrefix (logs word shard) (lines shard)) (sym (log-here logs can.serving.barrier.name looked word same))
          (subst (λ (l : List Text). IsPrefix l (looked shard))
          (take-take (machine.known shard) (known shard) (machine.journals shard) (can.more shard) ∙ sym (facts.log_is shard)
          ∙ ap (λ (other : Word). logs other shard) (sym same))
          (prefix-take (machine.known shard) (looked shard)))
      | inr apart ↦
          prefix-same (logs word shard) (looked-logs word shard)
          (sym (ap (λ (lines : ℕ → List Text). lines shard) (log-elsewhere logs can.serving.barrier.name looked word apart)))
    ]

    look-stage : (other : Word) → (other ≡ name → ⊥) → (stage : Stage) → (world.machines other).stage ≡ stage
        → IsAtStage (count_at world) world.made logs other (world.machines other) stage
        → IsAtStage (count_at world) world.made looked-logs other (world.machines other) stage
    unfolding looked-logs
    look-stage other apart Follows is it = tt
    look-stage other apart (Begins first) is it = record {
      called = it.called;
      own = it.own;
      none = it.none;
      log_is = λ place shard counts.
          it.log_is place shard counts
          ∙ sym (ap (λ (lines : ℕ → List Text). lines shard)
          (log-elsewhere logs can.serving.barrier.name looked first.name (beginning-apart other name can.serving first is it)));
    }
    look-stage other apart (Serves first) is it =
        let stays : logs first.name ≡ looked-logs first.name =
        sym (log-elsewhere logs can.serving.barrier.name looked first.name (service-apart other name can.serving first apart it)) in
        record {
          called = it.called;
          own = it.own;
          last = it.last;
          within = it.within;
          log_is = λ shard. sym (ap (λ (lines : ℕ → List Text). lines shard) stays) ∙ it.log_is shard;
          held = subst (λ (lines : ℕ → List Text). All (λ answer. IsPrefix (up_to answer) (lines answer.shard)) (world.machines other).held)
              stays it.held;
        }

    pub sound-look : IsSound MayFollow (with_machine world name (record (world.machines name) { known = known })) looked-logs
    unfolding looked looked-logs
    sound-look =
        let facts = serving-here MayFollow world logs sound name can.serving in
        let machine = world.machines name in
        let here = log-here logs can.serving.barrier.name looked can.serving.barrier.name refl in
        record {
          names = sound.names;
          logged = record {
            known = λ other records made.
                All-weaker (λ one. slice_get (logs other one.shard) one.index ≡ Some one.text)
                (λ one. slice_get (looked-logs other one.shard) one.index ≡ Some one.text)
                (λ one is. prefix-get (logs other one.shard) (looked-logs other one.shard) one.index one.text (looked-grows other one.shard) is)
                records (sound.logged.known other records made);
            opened = sound.logged.opened;
            barriers = sound.logged.barriers;
            logged = λ place shard.
                prefix-trans ((count_at world place).histories shard) (logs (count_at world place).barrier.name shard)
                (looked-logs (count_at world place).barrier.name shard) (sound.logged.logged place shard)
                (looked-grows (count_at world place).barrier.name shard);
            legal = λ word shard. elim (cases_word word can.serving.barrier.name) [
              | inl same ↦
                  legal-same MayFollow shard (looked shard) (looked-logs word shard)
                  (sym (ap (λ (lines : ℕ → List Text). lines shard) (log-here logs can.serving.barrier.name looked word same)))
                  (legal-prefix MayFollow shard (looked shard) (machine.journals shard) (prefix-take (known shard) (machine.journals shard))
                  ((sound.machines name).legal shard))
              | inr apart ↦
                  legal-same MayFollow shard (logs word shard) (looked-logs word shard)
                  (sym (ap (λ (lines : ℕ → List Text). lines shard) (log-elsewhere logs can.serving.barrier.name looked word apart)))
                  (sound.logged.legal word shard)
            ];
          };
          sent = sound.sent;
          machines = each-machine (IsSoundMachine MayFollow (count_at world) (length world.stream) world.made looked-logs) world name
              (record machine { known = known })
              (λ other apart.
              let it = sound.machines other in
              record {
                kept = it.kept;
                read = it.read;
                journals = it.journals;
                legal = it.legal;
                stage = look-stage other apart (world.machines other).stage refl it.stage;
              })
              (let it = sound.machines name in
              record {
                kept = it.kept;
                read = it.read;
                journals = it.journals;
                legal = it.legal;
                stage = subst (IsAtStage (count_at world) world.made looked-logs name (record machine { known = known }))
                    (sym can.serving.stage_is) (record {
                      called = facts.called;
                      own = facts.own;
                      last = facts.last;
                      within = can.within;
                      log_is = λ shard. ap (λ (lines : ℕ → List Text). lines shard) here;
                      held = All-weaker (λ (answer : Answer). IsPrefix (up_to answer) (logs can.serving.barrier.name answer.shard))
                          (λ (answer : Answer). IsPrefix (up_to answer) (looked-logs can.serving.barrier.name answer.shard))
                          (λ answer waits. prefix-trans (up_to answer) (logs can.serving.barrier.name answer.shard)
                          (looked-logs can.serving.barrier.name answer.shard) waits (looked-grows can.serving.barrier.name answer.shard))
                          machine.held facts.held;
                    });
              });
        }
