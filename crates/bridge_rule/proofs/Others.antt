-- Events that change nothing of a bridge.
use Rattle.std.proofs.Common.{◌≡◌, ◌≢◌, ℕ, ◌≤◌, ◌==◌, false, List, [], ◌∷◌, ◌++◌, length, take, drop, refl, sym, ◌∙◌, subst, arith}
use Rattle.std.specs.List.{All}
use Rattle.std.proofs.lemmas.Bool.{cond_both, cond-false, false_from_ne_true}
use Rattle.std.proofs.lemmas.List.{take-append-le, length_push}
use Rattle.one_history.specs.Streams.{Text, Word, Indexed, Message, OfMark, OfNothing, Count, is_word}
use Rattle.one_history.specs.Machines.{Follows, Machine, World, count_at, with_machine, next_message, Knows}
use Rattle.one_history.specs.Events.{Event, Write, Intrude, Read, Call, Record, Look, Publish, Hold, Reply, End, Part, Keep, Crash, Copy}
use Rattle.one_history.specs.Events.{next, appended, reads, calls, truncated, started}
use Rattle.one_history.proofs.Words.{word-same}
use Rattle.one_history.proofs.Counts.{count-before}
use Rattle.bridge_rule.specs.declared.role.Role.{Role}
use Rattle.bridge_rule.specs.declared.role.Role.TheVariants.{Untold, Following, Beginning, Serving}
use Rattle.bridge_rule.specs.Logs.{LogState}
use Rattle.bridge_rule.specs.Bridges.{BridgeState, StandsFor, StandsIn, IsKnown, IsServing, log_at}
use Rattle.bridge_rule.specs.Events.{ReadsMessage, DoesPublish, IsOfAnother}
use Rattle.bridge_rule.proofs.Standing.{stands-here}
use Rattle.bridge_rule.proofs.NeverDiverged.{serving-stage}
use Rattle.bridge_rule.proofs.ReadingBarriers.{known-same, reads-nothing}

pub reads-mark : (bridge : BridgeState) (word : Word) → ReadsMessage bridge bridge (OfMark word) (λ journals. journals)
reads-mark bridge word = reads-nothing bridge (OfMark word) (λ count. refl) (λ count same. refl) (λ count shard. refl)

pub reads-unreadable : (bridge : BridgeState) → ReadsMessage bridge bridge OfNothing (λ journals. journals)
reads-unreadable bridge = reads-nothing bridge OfNothing (λ count. refl) (λ count same. refl) (λ count shard. refl)

-- what is known is published
pub publishes : (bridge : BridgeState) (world : World) (records : List Indexed) → StandsIn bridge world → IsServing bridge.role
    → All (Knows (world.machines bridge.machine)) records → DoesPublish bridge world records
publishes bridge world records stands serves known =
    let serving = serving-stage bridge.role serves in
    record {
      can = record { serving = record { barrier = serving.0; stage_is = stands.stage ∙ serving.1 }; known = known };
      stands = stands;
    }

-- one more record of a journal leaves what the serving bridge knows
appended-known : (role : Role) → IsServing role → (log : LogState) (history : List Text) (machine : Machine) (shard : ℕ) (text : Text) (other : ℕ)
    → IsKnown role log history machine other
    → IsKnown role log history (record machine { journals = appended machine.journals shard text }) other
appended-known Untold serves log history machine shard text other known = absurd serves
appended-known Following serves log history machine shard text other known = absurd serves
appended-known (Beginning own) serves log history machine shard text other known = absurd serves
appended-known (Serving own) serves log history machine shard text other known =
    cond_both (other == shard) (machine.journals other ++ text ∷ []) (machine.journals other)
    (λ (l : List Text). (take (machine.known other) l ≡ history ++ log.beyond) × (machine.known other ≤ length l))
    (λ here.
    let long = length_push (machine.journals other) text in
    let within = known.1 in
    (take-append-le (machine.known other) (machine.journals other) (text ∷ []) known.1 ∙ known.0, omega arith))
    (λ elsewhere. known)

pub records-after : (bridge : BridgeState) (world : World) (shard : ℕ) (text : Text) → StandsIn bridge world → IsServing bridge.role
    → StandsIn bridge (next world (Record bridge.machine shard text))
records-after bridge world shard text stands serves =
    let machine = world.machines bridge.machine in
    let count = count_at world machine.read in
    stands-here bridge world (record machine { journals = appended machine.journals shard text }) (record {
      last = stands.last;
      stage = stands.stage;
      counts = stands.counts;
      known = λ other. appended-known bridge.role serves (log_at bridge.logs other) (count.histories other) machine shard text other
          (stands.known other);
      held = stands.held;
    })

pub keeps-position : (bridge : BridgeState) (world : World) (place : ℕ) → StandsIn bridge world
    → StandsIn bridge (next world (Keep bridge.machine place))
keeps-position bridge world place stands =
    let machine = world.machines bridge.machine in
    let count = count_at world machine.read in
    stands-here bridge world (record machine { kept = place }) (record {
      last = stands.last;
      stage = stands.stage;
      counts = stands.counts;
      known = λ shard. known-same bridge.role (log_at bridge.logs shard) (count.histories shard) machine (record machine { kept = place }) shard
          refl refl (stands.known shard);
      held = stands.held;
    })

-- another machine changes
stands-elsewhere : (bridge : BridgeState) (world : World) (other : Word) (machine : Machine) → bridge.machine ≢ other → StandsIn bridge world
    → StandsIn bridge (with_machine world other machine)
stands-elsewhere bridge world other machine apart stands =
    let not_it : is_word bridge.machine other ≡ false =
    false_from_ne_true (is_word bridge.machine other) (λ is. apart (word-same bridge.machine other is)) in
    let same : (with_machine world other machine).machines bridge.machine ≡ world.machines bridge.machine =
    cond-false (is_word bridge.machine other) machine (world.machines bridge.machine) not_it in
    subst (λ (own : Machine). StandsFor bridge (count_at world own.read) own) (sym same) stands

-- one more message comes
stands-written : (bridge : BridgeState) (world : World) (message : Message) → StandsIn bridge world
    → (world.machines bridge.machine).read ≤ length world.stream
    → StandsIn bridge (record world { stream = world.stream ++ message ∷ [] })
stands-written bridge world message stands within =
    subst (λ (count : Count). StandsFor bridge count (world.machines bridge.machine))
    (sym (count-before world.base world.stream message (world.machines bridge.machine).read within)) stands

pub others-stand : (bridge : BridgeState) (world : World) (event : Event) → StandsIn bridge world
    → (world.machines bridge.machine).read ≤ length world.stream → IsOfAnother bridge.machine event → StandsIn bridge (next world event)
others-stand bridge world (Write message) stands within apart = stands-written bridge world message stands within
others-stand bridge world (Intrude message) stands within apart = stands-written bridge world message stands within
others-stand bridge world (Read other journals) stands within apart =
    stands-elsewhere bridge world other (reads (world.machines other) (count_at world (world.machines other).read)
    (next_message world (world.machines other)) journals) apart stands
others-stand bridge world (Call other number barrier) stands within apart =
    stands-elsewhere bridge world other (calls (world.machines other) (record { number = number; name = barrier; machine = other })) apart stands
others-stand bridge world (Record other shard text) stands within apart =
    stands-elsewhere bridge world other (record (world.machines other) { journals = appended (world.machines other).journals shard text }) apart stands
others-stand bridge world (Look other known) stands within apart =
    stands-elsewhere bridge world other (record (world.machines other) { known = known }) apart stands
others-stand bridge world (Publish other records) stands within apart = stands
others-stand bridge world (Hold other answer) stands within apart =
    stands-elsewhere bridge world other (record (world.machines other) { held = (world.machines other).held ++ answer ∷ [] }) apart stands
others-stand bridge world (Reply other answer) stands within apart =
    stands-elsewhere bridge world other (record (world.machines other) { held = drop 1 (world.machines other).held }) apart stands
others-stand bridge world (End other keep) stands within apart =
    stands-elsewhere bridge world other
    (record (world.machines other) { journals = truncated (world.machines other).journals keep; held = [] }) apart stands
others-stand bridge world (Part other) stands within apart =
    stands-elsewhere bridge world other (record (world.machines other) { stage = Follows; held = [] }) apart stands
others-stand bridge world (Keep other place) stands within apart =
    stands-elsewhere bridge world other (record (world.machines other) { kept = place }) apart stands
others-stand bridge world (Crash other keep) stands within apart =
    stands-elsewhere bridge world other (started (world.machines other) keep) apart stands
others-stand bridge world (Copy other from keep) stands within apart =
    stands-elsewhere bridge world other (started (world.machines from) keep) apart stands
