-- What a machine does that changes neither the stream nor what was made.
use Rattle.std.proofs.Common.{◌≡◌, ℕ, ◌≤◌, ◌==◌, List, [], ◌∷◌, ◌++◌, length, take, drop, refl, sym, ◌∙◌, subst, arith}
use Rattle.std.specs.List.{All}
use Rattle.std.proofs.lemmas.Bool.{cond_both, eqb-true}
use Rattle.std.proofs.lemmas.List.{length_push, length-take, take-take, take-append-le}
use Rattle.std.proofs.lemmas.List.Elements.{All-nil, All-push, All-head, All-tail}
use Rattle.one_history.specs.Prefixes.{IsPrefix}
use Rattle.one_history.specs.Streams.{Text, Word, Barrier, Message, Count}
use Rattle.one_history.specs.Machines.{Answer, up_to, Stage, Follows, Begins, Serves, Machine, World, count_at, count_of, with_machine}
use Rattle.one_history.specs.Events.{Successors, IsLegal, IsServing, CanRecord, CanHold, CanReply, CanEnd, KeepsPosition, appended, truncated, started}
use Rattle.one_history.proofs.Prefixed.{prefix-trans, prefix-refl, prefix-append, prefix-of_take, prefix-length, prefix-take, prefix-shorter}
use Rattle.one_history.proofs.Legal.{legal-prefix, legal-more}
use Rattle.one_history.proofs.Counts.{histories-later}
use Rattle.one_history.proofs.Sound.{Logs, IsInService, IsAtStage, IsSoundMachine, IsSound, sound-machine, each-machine}

-- the facts of a machine that serves
pub in-service : (counts : ℕ → Count) (made : List Message) (logs : Logs) (name : Word) (machine : Machine) (stage : Stage) (barrier : Barrier)
    → stage ≡ Serves barrier → IsAtStage counts made logs name machine stage → IsInService counts made logs name machine barrier
in-service counts made logs name machine stage barrier is it = subst (IsAtStage counts made logs name machine) is it

module _ (MayFollow : Successors) (world : World) (logs : Logs) (sound : IsSound MayFollow world logs) where
  -- what is sure of a machine
  abbrev pub IsSoundHere : Word → Machine → Type 0
  IsSoundHere = IsSoundMachine MayFollow (count_at world) (length world.stream) world.made logs

  -- what is sure of one that serves
  pub serving-here : (name : Word) (serving : IsServing world name)
      → IsInService (count_at world) world.made logs name (world.machines name) serving.barrier
  serving-here name serving =
      in-service (count_at world) world.made logs name (world.machines name) (world.machines name).stage serving.barrier serving.stage_is
      (sound.machines name).stage

  -- it follows, and nobody waits
  pub sound-part : (name : Word) → IsSound MayFollow (with_machine world name (record (world.machines name) { stage = Follows; held = [] })) logs
  sound-part name =
      let it = sound.machines name in
      sound-machine MayFollow world logs sound name (record (world.machines name) { stage = Follows; held = [] })
      (record { kept = it.kept; read = it.read; journals = it.journals; legal = it.legal; stage = tt })

  -- its position is kept
  pub sound-keep : (name : Word) (place : ℕ) → place ≤ (world.machines name).read
      → IsSound MayFollow (with_machine world name (record (world.machines name) { kept = place })) logs
  sound-keep name place within =
      let it = sound.machines name in
      sound-machine MayFollow world logs sound name (record (world.machines name) { kept = place })
      (record {
        kept = within;
        read = it.read;
        journals = it.journals;
        legal = it.legal;
        stage = kept (world.machines name).stage it.stage;
      })
    where
      kept : (stage : Stage) → IsAtStage (count_at world) world.made logs name (world.machines name) stage
          → IsAtStage (count_at world) world.made logs name (record (world.machines name) { kept = place }) stage
      kept Follows facts = tt
      kept (Begins barrier) facts = facts
      kept (Serves barrier) facts = record {
        called = facts.called;
        own = facts.own;
        last = facts.last;
        within = facts.within;
        log_is = facts.log_is;
        held = facts.held;
      }

  -- it starts from what is kept of a machine's position and journals
  pub sound-start : (name other : Word) (keep : ℕ → ℕ) → KeepsPosition world (world.machines other) keep
      → IsSound MayFollow (with_machine world name (started (world.machines other) keep)) logs
  sound-start name other keep keeps =
      let it = sound.machines other in
      sound-machine MayFollow world logs sound name (started (world.machines other) keep)
      (record {
        kept = omega arith;
        read = let kept = it.kept in let read = it.read in omega arith;
        journals = λ shard.
            prefix-of_take (keep shard) ((count_at world (world.machines other).kept).histories shard) ((world.machines other).journals shard)
            (prefix-trans ((count_at world (world.machines other).kept).histories shard)
            ((count_at world (world.machines other).read).histories shard) ((world.machines other).journals shard)
            (histories-later world.base world.stream (world.machines other).kept (world.machines other).read shard it.kept) (it.journals shard))
            (keeps shard);
        legal = λ shard.
            legal-prefix MayFollow shard (take (keep shard) ((world.machines other).journals shard)) ((world.machines other).journals shard)
            (prefix-take (keep shard) ((world.machines other).journals shard)) (it.legal shard);
        stage = tt;
      })

  -- its host appends a record
  pub sound-record : (name : Word) (shard : ℕ) (text : Text) → CanRecord MayFollow world name shard text
      → IsSound MayFollow (with_machine world name
      (record (world.machines name) { journals = appended (world.machines name).journals shard text })) logs
  sound-record name shard text can =
      let machine = world.machines name in
      let it = sound.machines name in
      let facts = serving-here name can.serving in
      sound-machine MayFollow world logs sound name (record machine { journals = appended machine.journals shard text })
      (record {
        kept = it.kept;
        read = it.read;
        journals = λ other.
            prefix-trans ((count_at world machine.read).histories other) (machine.journals other) (appended machine.journals shard text other)
            (it.journals other) (longer machine.journals other);
        legal = λ other.
            cond_both (other == shard) (machine.journals other ++ text ∷ []) (machine.journals other) (IsLegal MayFollow other)
            (λ here. legal-more MayFollow other (machine.journals other) text (it.legal other)
            (subst (λ (n : ℕ). MayFollow n (machine.journals n) text) (sym (eqb-true other shard here)) can.follows))
            (λ elsewhere. it.legal other);
        stage = subst (IsAtStage (count_at world) world.made logs name (record machine { journals = appended machine.journals shard text }))
            (sym can.serving.stage_is) (record {
              called = facts.called;
              own = facts.own;
              last = facts.last;
              within = λ other.
                  let below = facts.within other in
                  let more = prefix-length (machine.journals other) (appended machine.journals shard text other) (longer machine.journals other) in
                  omega arith;
              log_is = λ other. facts.log_is other ∙ alike machine.journals (machine.known other) other (facts.within other);
              held = facts.held;
            });
      })
    where
      longer : (journals : ℕ → List Text) (other : ℕ) → IsPrefix (journals other) (appended journals shard text other)
      longer journals other =
          cond_both (other == shard) (journals other ++ text ∷ []) (journals other) (IsPrefix (journals other))
          (λ here. prefix-append (journals other) (text ∷ [])) (λ elsewhere. prefix-refl (journals other))

      alike : (journals : ℕ → List Text) (count other : ℕ) → count ≤ length (journals other)
          → take count (journals other) ≡ take count (appended journals shard text other)
      alike journals count other within =
          cond_both (other == shard) (journals other ++ text ∷ []) (journals other) (λ (l : List Text). take count (journals other) ≡ take count l)
          (λ here. sym (take-append-le count (journals other) (text ∷ []) within)) (λ elsewhere. refl)

  -- an answer waits
  pub sound-hold : (name : Word) (answer : Answer) → CanHold world name answer
      → IsSound MayFollow (with_machine world name (record (world.machines name) { held = (world.machines name).held ++ answer ∷ [] })) logs
  sound-hold name answer can =
      let machine = world.machines name in
      let it = sound.machines name in
      let facts = serving-here name can.serving in
      sound-machine MayFollow world logs sound name (record machine { held = machine.held ++ answer ∷ [] })
      (record {
        kept = it.kept;
        read = it.read;
        journals = it.journals;
        legal = it.legal;
        stage = subst (IsAtStage (count_at world) world.made logs name (record machine { held = machine.held ++ answer ∷ [] }))
            (sym can.serving.stage_is) (record {
              called = facts.called;
              own = facts.own;
              last = facts.last;
              within = facts.within;
              log_is = facts.log_is;
              held = All-push (λ (other : Answer). IsPrefix (up_to other) (logs can.serving.barrier.name other.shard)) machine.held answer facts.held
                  (subst (IsPrefix (up_to answer)) (sym (facts.log_is answer.shard)) can.stands);
            });
      })

  -- its host ends
  pub sound-end : (name : Word) (keep : ℕ → ℕ) → CanEnd world name keep
      → IsSound MayFollow (with_machine world name
      (record (world.machines name) { journals = truncated (world.machines name).journals keep; held = [] })) logs
  sound-end name keep can =
      let machine = world.machines name in
      let it = sound.machines name in
      let facts = serving-here name can.serving in
      let log_is : (shard : ℕ) → logs can.serving.barrier.name shard ≡ take (machine.known shard) (take (keep shard) (machine.journals shard)) =
      λ shard. facts.log_is shard ∙ sym (take-take (machine.known shard) (keep shard) (machine.journals shard) (can.keeps shard)) in
      sound-machine MayFollow world logs sound name (record machine { journals = truncated machine.journals keep; held = [] })
      (record {
        kept = it.kept;
        read = it.read;
        journals = λ shard.
            prefix-trans ((count_at world machine.read).histories shard) (logs can.serving.barrier.name shard)
            (take (keep shard) (machine.journals shard))
            (subst (λ (barrier : Barrier). IsPrefix ((count_at world machine.read).histories shard) (logs barrier.name shard)) facts.last
            (sound.logged.logged machine.read shard))
            (subst (λ (l : List Text). IsPrefix l (take (keep shard) (machine.journals shard))) (sym (log_is shard))
            (prefix-take (machine.known shard) (take (keep shard) (machine.journals shard))));
        legal = λ shard.
            legal-prefix MayFollow shard (take (keep shard) (machine.journals shard)) (machine.journals shard)
            (prefix-take (keep shard) (machine.journals shard)) (it.legal shard);
        stage = subst (IsAtStage (count_at world) world.made logs name (record machine { journals = truncated machine.journals keep; held = [] }))
            (sym can.serving.stage_is) (record {
              called = facts.called;
              own = facts.own;
              last = facts.last;
              within = λ shard.
                  let below = facts.within shard in
                  let keeps = can.keeps shard in
                  let long = length-take (keep shard) (machine.journals shard) in
                  omega arith;
              log_is = log_is;
              held = All-nil (λ (other : Answer). IsPrefix (up_to other) (logs can.serving.barrier.name other.shard));
            });
      })

  -- a reply is sent: its record counts
  pub reply-counts : (name : Word) (answer : Answer) (can : CanReply world name answer)
      → IsPrefix (up_to answer) ((count_at world (world.machines name).read).histories answer.shard)
  reply-counts name answer can =
      let machine = world.machines name in
      let facts = serving-here name can.serving in
      let history = (count_at world machine.read).histories answer.shard in
      let waits : All (λ (other : Answer). IsPrefix (up_to other) (logs can.serving.barrier.name other.shard)) (answer ∷ can.others) =
      subst (All (λ (other : Answer). IsPrefix (up_to other) (logs can.serving.barrier.name other.shard))) can.held_is facts.held in
      let long = length_push answer.before answer.text in
      let counts = can.counts in
      prefix-shorter (up_to answer) history (logs can.serving.barrier.name answer.shard)
      (All-head (λ (other : Answer). IsPrefix (up_to other) (logs can.serving.barrier.name other.shard)) answer can.others waits)
      (subst (λ (barrier : Barrier). IsPrefix history (logs barrier.name answer.shard)) facts.last (sound.logged.logged machine.read answer.shard))
      (omega arith)

  pub sound-reply : (name : Word) (answer : Answer) → CanReply world name answer
      → IsSound MayFollow (record (with_machine world name (record (world.machines name) { held = drop 1 (world.machines name).held }))
      { sent = world.sent ++ answer ∷ [] }) logs
  sound-reply name answer can =
      let machine = world.machines name in
      let it = sound.machines name in
      let facts = serving-here name can.serving in
      let history = (count_at world machine.read).histories answer.shard in
      record {
        names = sound.names;
        logged = sound.logged;
        sent = All-push (λ (other : Answer). IsPrefix (up_to other) ((count_of world).histories other.shard)) world.sent answer sound.sent
            (prefix-trans (up_to answer) history ((count_of world).histories answer.shard) (reply-counts name answer can)
            (histories-later world.base world.stream machine.read (length world.stream) answer.shard it.read));
        machines = each-machine IsSoundHere world name (record machine { held = drop 1 machine.held })
            (λ other apart. sound.machines other)
            (record {
              kept = it.kept;
              read = it.read;
              journals = it.journals;
              legal = it.legal;
              stage = subst (IsAtStage (count_at world) world.made logs name (record machine { held = drop 1 machine.held }))
                  (sym can.serving.stage_is) (record {
                    called = facts.called;
                    own = facts.own;
                    last = facts.last;
                    within = facts.within;
                    log_is = facts.log_is;
                    held = subst (λ (l : List Answer). All (λ (other : Answer). IsPrefix (up_to other)
                        (logs can.serving.barrier.name other.shard)) (drop 1 l)) (sym can.held_is)
                        (All-tail (λ (other : Answer). IsPrefix (up_to other) (logs can.serving.barrier.name other.shard)) answer can.others
                        (subst (All (λ (other : Answer). IsPrefix (up_to other) (logs can.serving.barrier.name other.shard)))
                        can.held_is facts.held));
                  });
            });
      }
