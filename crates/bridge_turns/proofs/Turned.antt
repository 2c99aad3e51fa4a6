-- Each turn is a run of events.
use Rattle.std.proofs.Common.{◌≡◌, ℕ, ◌+◌, ◌==◌, ◌<◌, Bool, true, false, List, [], ◌∷◌, ◌++◌, length, take, map, None, refl, ap, sym, ◌∙◌, append_assoc}
use Rattle.std.proofs.Common.{if◌then◌else◌}
use Rattle.std.specs.List.{All, flat_map, range_with_len, slice_index}
use Rattle.std.proofs.lemmas.Bool.{eqb-true, eqb-false}
use Rattle.one_history.specs.Streams.{Text, Word, Indexed, OfBarrier, OfRecords, OfMark, OfNothing, is_word, is_barrier}
use Rattle.one_history.specs.Machines.{World}
use Rattle.one_history.specs.Events.{Read, next, after}
use Rattle.bridge_rule.specs.declared.opening.Opening.{Opening}
use Rattle.bridge_rule.specs.declared.log.Step.{Step}
use Rattle.bridge_rule.specs.declared.log.Step.TheVariants.{Skips, Stays, Puts, Replaces}
use Rattle.bridge_rule.specs.declared.role.Role.{Role}
use Rattle.bridge_rule.specs.declared.role.Role.TheVariants.{Untold, Following, Beginning, Serving}
use Rattle.bridge_rule.specs.declared.role.Turn.{Turn}
use Rattle.bridge_rule.specs.declared.role.Turn.TheVariants as turn
use Rattle.bridge_rule.specs.Openings.{barrier_of}
use Rattle.bridge_rule.specs.Roles.{turn_of, role_at}
use Rattle.bridge_rule.specs.Logs.{LogState, applied}
use Rattle.bridge_rule.specs.Bridges.{IsTold, IsServing, indexed, log_at, logs_read, steps_read, performed, serves, waited_for, are_quiet}
use Rattle.bridge_rule.specs.Events.{IsNext}
use Rattle.bridge_rule.proofs.Others.{reads-mark, reads-unreadable}
use Rattle.bridge_rule.proofs.ReadingBarriers.{reads-barrier, reads-other_barrier}
use Rattle.bridge_rule.proofs.ReadingRecords.{reads-records}
use Rattle.bridge_lines.specs.declared.event.Event.{Event}
use Rattle.bridge_lines.specs.declared.event.Event.TheVariants.{Has, Told, Connected, Lost, Called, Message, Loaded, Ended, Answered, Again}
use Rattle.bridge_lines.specs.declared.message.Message.{Message as AMessage}
use Rattle.bridge_lines.specs.declared.message.Message.TheVariants as of
use Rattle.bridge_lines.specs.Messages.{message_of}
use Rattle.bridge_lines.specs.Acts.{Act, Position, Count, Ready}
use Rattle.bridge_turns.specs.declared.link.Link.{Link}
use Rattle.bridge_turns.specs.declared.link.Link.TheVariants.{Away, Reading, InLine}
use Rattle.bridge_turns.specs.Partitions.{PartitionState, outcome_of, says, with_link, step_acts, all_step_acts, count_acts, all_count_acts, all_counts, gone}
use Rattle.bridge_turns.specs.Turns as turns
use Rattle.bridge_turns.specs.Laws.{Stands, AcceptsMessage, all_carried, AreOfMade, Does, gone_at, IsTurn}
use Rattle.bridge_turns.proofs.Ways.{AreQuiet, nothing-quiet, quiet-append, carried-append, made-append, says-quiet, happens, joined}
use Rattle.bridge_turns.proofs.Releasing.{releases-way}
use Rattle.bridge_turns.proofs.Turning.{serves-is, either, either-went, ready-quiet, none-made, read-journals, read-made, unchanged-way, has-turn, told-turn}
use Rattle.bridge_turns.proofs.Turning.{parts-way, connected-turn, called-turn, ended-turn, loaded-turn, answered-turn, again-turn}

-- ---- a barrier

waits-by : (own opening : Opening) (test : Bool)
    → waited_for (role_at (if test then turn.Starts else turn.Yields) (Beginning own) opening) ≡ None
waits-by own opening true = refl
waits-by own opening false = refl

opened-waits : (role : Role) (opening : Opening) → waited_for (role_at (turn_of role opening) role opening) ≡ None
opened-waits Untold opening = refl
opened-waits Following opening = refl
opened-waits (Beginning own) opening = waits-by own opening (is_barrier (barrier_of own) (barrier_of opening))
opened-waits (Serving own) opening = refl

turn-quiet : (turn_is : Turn) → AreQuiet (turns.turn_acts turn_is)
turn-quiet turn.Nothing = nothing-quiet
turn-quiet turn.Starts = record { carry = λ shard journal. refl; make = λ world. (tt, tt) }
turn-quiet turn.Ends = record { carry = λ shard journal. refl; make = λ world. (tt, tt) }
turn-quiet turn.Yields = ready-quiet

position-quiet : (opening : Opening) → AreQuiet (Position (barrier_of opening) ∷ [])
position-quiet opening = record { carry = λ shard journal. refl; make = λ world. (tt, tt) }

opening-turn : (state : PartitionState) (opening : Opening) (world : World) (said : List Act) → Stands state world → IsTold state.bridge.role
    → IsNext world state.bridge.machine (OfBarrier (barrier_of opening))
    → Does state.bridge.machine (outcome_of state said) (turns.reads_opening opening (outcome_of state said)) [] world
opening-turn state opening world said stands told next_is =
    let outcome = outcome_of state said in
    let bridge = state.bridge in
    let acts = turns.turn_acts (turn_of bridge.role opening) in
    let quiet = quiet-append (Position (barrier_of opening) ∷ []) acts (position-quiet opening) (turn-quiet (turn_of bridge.role opening)) in
    either bridge.machine outcome (turns.opens opening outcome) outcome [] world (opening.number == bridge.last.number + 1)
    (λ is.
    let does = reads-barrier bridge opening told (eqb-true opening.number (bridge.last.number + 1) is) world stands.bridge next_is in
    let event = Read bridge.machine (world.machines bridge.machine).journals in
    happens bridge.machine outcome (turns.opens opening outcome) (Position (barrier_of opening) ∷ acts) world event
    (append_assoc said (Position (barrier_of opening) ∷ []) acts) does.can
    (record {
      bridge = does.stands;
      made = none-made (waited_for (role_at (turn_of bridge.role opening) bridge.role opening)) (next world event) (opened-waits bridge.role opening);
      quiet = stands.quiet;
    })
    (λ shard. read-journals world bridge.machine (world.machines bridge.machine).journals shard
    ∙ sym (quiet.carry shard ((world.machines bridge.machine).journals shard)))
    (quiet.make (next world event)) refl)
    (λ is. unchanged-way state (OfBarrier (barrier_of opening)) world said stands next_is
    (reads-other_barrier bridge opening (eqb-false opening.number (bridge.last.number + 1) is)))

-- ---- records

one-performed : (shard : ℕ) (step : Step) (one : Indexed) (journal : List Text) (here : Bool) → (one.shard == shard) ≡ here
    → all_carried shard (step_acts step one) journal ≡ (if here then applied step one.index one.text journal else journal)
one-performed shard Skips one journal true is = refl
one-performed shard Skips one journal false is = refl
one-performed shard Stays one journal true is = refl
one-performed shard Stays one journal false is = refl
one-performed shard Puts one journal true is = ap (λ (b : Bool). if b then journal ++ one.text ∷ [] else journal) is
one-performed shard Puts one journal false is = ap (λ (b : Bool). if b then journal ++ one.text ∷ [] else journal) is
one-performed shard Replaces one journal true is =
    ap (λ (b : Bool). if b then (if b then take one.index journal else journal) ++ one.text ∷ [] else (if b then take one.index journal else journal)) is
one-performed shard Replaces one journal false is =
    ap (λ (b : Bool). if b then (if b then take one.index journal else journal) ++ one.text ∷ [] else (if b then take one.index journal else journal)) is

steps-performed : (shard : ℕ) (records : List Indexed) (steps : List Step) (journal : List Text)
    → all_carried shard (all_step_acts steps records) journal ≡ performed shard records steps journal
steps-performed shard [] [] journal = refl
steps-performed shard [] (step ∷ steps) journal = refl
steps-performed shard (one ∷ records) [] journal = refl
steps-performed shard (one ∷ records) (step ∷ steps) journal =
    carried-append shard (step_acts step one) (all_step_acts steps records) journal
    ∙ ap (all_carried shard (all_step_acts steps records)) (one-performed shard step one journal (one.shard == shard) refl)
    ∙ steps-performed shard records steps (if one.shard == shard then applied step one.index one.text journal else journal)

step-made : (world : World) (step : Step) (one : Indexed) → AreOfMade world (step_acts step one)
step-made world Skips one = tt
step-made world Stays one = tt
step-made world Puts one = (tt, tt)
step-made world Replaces one = (tt, (tt, tt))

steps-made : (world : World) (steps : List Step) (records : List Indexed) → AreOfMade world (all_step_acts steps records)
steps-made world [] records = tt
steps-made world (step ∷ steps) [] = tt
steps-made world (step ∷ steps) (one ∷ records) =
    made-append world (step_acts step one) (all_step_acts steps records) (step-made world step one) (steps-made world steps records)

count-quiet : (shard number : ℕ) (test : Bool) → AreQuiet (if test then [] else Count shard number ∷ [])
count-quiet shard number true = nothing-quiet
count-quiet shard number false = record { carry = λ other journal. refl; make = λ world. (tt, tt) }

flat-quiet : (f : ℕ → List Act) → ((number : ℕ) → AreQuiet (f number)) → (numbers : List ℕ) → AreQuiet (flat_map f numbers)
flat-quiet f each [] = nothing-quiet
flat-quiet f each (number ∷ numbers) = quiet-append (f number) (flat_map f numbers) (each number) (flat-quiet f each numbers)

counts-quiet : (counts : List ℕ) (logs : List LogState) → AreQuiet (all_count_acts counts logs)
unfolding all_count_acts
counts-quiet counts logs =
    flat-quiet (λ shard. count_acts (slice_index counts shard) logs shard)
    (λ shard. count-quiet shard (log_at logs shard).count ((log_at logs shard).count == slice_index counts shard)) (range_with_len 0 17)

takes-way : (state : PartitionState) (name : Word) (records : List Indexed) (world : World) (said : List Act) → Stands state world
    → IsTold state.bridge.role → All (λ one. one.shard < length state.bridge.logs) records
    → (IsServing state.bridge.role → are_quiet (steps_read state.bridge name records) ≡ true)
    → IsNext world state.bridge.machine (OfRecords name records)
    → Does state.bridge.machine (outcome_of state said) (turns.takes_records name records (outcome_of state said)) [] world
takes-way state name records world said stands told within quiet next_is =
    let bridge = state.bridge in
    let steps = steps_read bridge name records in
    let some = all_step_acts steps records in
    let counts = all_count_acts (all_counts bridge.logs) (logs_read bridge name records) in
    let still = counts-quiet (all_counts bridge.logs) (logs_read bridge name records) in
    let does = reads-records bridge name records told within quiet world stands.bridge next_is in
    let journals = λ (shard : ℕ). performed shard records steps ((world.machines bridge.machine).journals shard) in
    let event = Read bridge.machine journals in
    happens bridge.machine (outcome_of state said) (turns.takes_records name records (outcome_of state said)) (some ++ counts) world event
    (append_assoc said some counts) does.can
    (record {
      bridge = does.stands;
      made = read-made (waited_for bridge.role) world bridge.machine journals stands.made;
      quiet = stands.quiet;
    })
    (λ shard. read-journals world bridge.machine journals shard
    ∙ sym (carried-append shard some counts ((world.machines bridge.machine).journals shard)
    ∙ still.carry shard (all_carried shard some ((world.machines bridge.machine).journals shard))
    ∙ steps-performed shard records steps ((world.machines bridge.machine).journals shard)))
    (made-append (next world event) some counts (steps-made (next world event) steps records) (still.make (next world event))) refl

records-turn : (state : PartitionState) (name : Word) (records : List Indexed) (world : World) (said : List Act) → Stands state world
    → IsTold state.bridge.role → All (λ one. one.shard < length state.bridge.logs) records
    → (IsServing state.bridge.role → are_quiet (steps_read state.bridge name records) ≡ true)
    → IsNext world state.bridge.machine (OfRecords name records)
    → Does state.bridge.machine (outcome_of state said) (turns.reads_records name records (outcome_of state said))
    (if serves state.bridge.role then gone (logs_read state.bridge name records) state.bridge.held else []) world
records-turn state name records world said stands told within quiet next_is =
    let outcome = outcome_of state said in
    let bridge = state.bridge in
    let taken = turns.takes_records name records outcome in
    let first = takes-way state name records world said stands told within quiet next_is in
    either-went bridge.machine outcome (turns.releases taken) taken (gone (logs_read bridge name records) bridge.held) [] world (serves bridge.role)
    (λ is. joined bridge.machine outcome taken (turns.releases taken) [] (gone (logs_read bridge name records) bridge.held) world first
    (releases-way taken (after world first.events) (serves-is bridge.role is) first.stands))
    (λ is. first)

-- ---- a mark

marked : (state : PartitionState) (word : Word) (world : World) (said : List Act) → Stands state world
    → IsNext world state.bridge.machine (OfMark word) → (test : Bool)
    → Does state.bridge.machine (outcome_of state said)
    (if test then says (with_link (outcome_of state said) InLine) (Ready ∷ []) else outcome_of state said) [] world
marked state word world said stands next_is false =
    unchanged-way state (OfMark word) world said stands next_is (reads-mark state.bridge word)
marked state word world said stands next_is true =
    let outcome = outcome_of state said in
    let first = unchanged-way state (OfMark word) world said stands next_is (reads-mark state.bridge word) in
    joined state.bridge.machine outcome outcome (says (with_link outcome InLine) (Ready ∷ [])) [] [] world first
    (says-quiet state.bridge.machine outcome (says (with_link outcome InLine) (Ready ∷ [])) (Ready ∷ []) (after world first.events) refl
    ready-quiet (record { bridge = first.stands.bridge; made = first.stands.made; quiet = first.stands.quiet }))

mark-turn : (link : Link) (state : PartitionState) (word : Word) (world : World) (said : List Act) → Stands state world
    → IsNext world state.bridge.machine (OfMark word)
    → Does state.bridge.machine (outcome_of state said) (turns.reads_mark link word (outcome_of state said)) [] world
mark-turn Away state word world said stands next_is = marked state word world said stands next_is false
mark-turn (Reading name) state word world said stands next_is = marked state word world said stands next_is (is_word name.items word)
mark-turn InLine state word world said stands next_is = marked state word world said stands next_is false

message-turn : (state : PartitionState) (message : AMessage) (world : World) (said : List Act) → Stands state world
    → IsNext world state.bridge.machine (message_of message) → IsTold state.bridge.role → AcceptsMessage state.bridge message
    → Does state.bridge.machine (outcome_of state said) (turns.reads message (outcome_of state said)) (gone_at state message) world
message-turn state (of.Opening opening) world said stands next_is told accepts = opening-turn state opening world said stands told next_is
message-turn state (of.Records records) world said stands next_is told accepts =
    records-turn state records.now.name.items (map indexed records.now.records.items) world said stands told accepts.0 accepts.1 next_is
message-turn state (of.Mark word) world said stands next_is told accepts = mark-turn state.link state word.items world said stands next_is
message-turn state of.Nothing world said stands next_is told accepts =
    unchanged-way state OfNothing world said stands next_is (reads-unreadable state.bridge)

pub turns-are-runs : (state : PartitionState) (event : Event) → IsTurn state event
turns-are-runs state (Has one) world said stands so accepts = has-turn state (indexed one) world said stands so accepts.0 accepts.1
turns-are-runs state Told world said stands so accepts = told-turn state world said stands so
turns-are-runs state (Connected name) world said stands so accepts = connected-turn state (Reading name) name.items world said stands
turns-are-runs state Lost world said stands so accepts = parts-way (outcome_of state said) Away world stands
turns-are-runs state (Called name) world said stands so accepts = called-turn state name.items world said stands so
turns-are-runs state (Message message) world said stands so accepts = message-turn state message world said stands so accepts.0 accepts.1
turns-are-runs state Loaded world said stands so accepts = loaded-turn state world said stands
turns-are-runs state Ended world said stands so accepts = ended-turn state world said stands
turns-are-runs state (Answered answer) world said stands so accepts = answered-turn state answer.number answer.place world said stands accepts
turns-are-runs state Again world said stands so accepts = again-turn state.link state world said stands
