-- The turns of a partition: what it is and what was said after an event.
use Rattle.std.specs.Prelude.{ℕ, ◌+◌, ◌-◌, ◌==◌, ◌&&◌, Bool, true, false, List, [], ◌∷◌, ◌++◌, length, map, replicate, Option, Some, None, if◌then◌else◌}
use Rattle.std.specs.List.{flat_map, range_with_len}
use Rattle.arrayvec.specs.ArrayVec.{ArrayVec}
use Rattle.one_history.specs.Streams.{Word, Indexed, is_word}
use Rattle.bridge_rule.specs.declared.limits.TheConstants.{LOGS}
use Rattle.bridge_rule.specs.declared.opening.Opening.{Opening}
use Rattle.bridge_rule.specs.declared.held.Held.{Held}
use Rattle.bridge_rule.specs.declared.role.Role.TheVariants as role
use Rattle.bridge_rule.specs.declared.role.Turn.{Turn}
use Rattle.bridge_rule.specs.declared.role.Turn.TheVariants as turn
use Rattle.bridge_rule.specs.Openings.{barrier_of}
use Rattle.bridge_rule.specs.Roles.{turn_of}
use Rattle.bridge_rule.specs.Logs.{LogState, known_of}
use Rattle.bridge_rule.specs.Bridges.{BridgeState, indexed, log_at, learned, told_bridge, with_role, parted_role, with_held, with_logs, logs_read, steps_read}
use Rattle.bridge_rule.specs.Bridges.{opened, served_name, waited_for, serves, follows, is_told}
use Rattle.bridge_lines.specs.declared.event.Event.{Event}
use Rattle.bridge_lines.specs.declared.event.Event.TheVariants.{Has, Told, Connected, Lost, Called, Message, Loaded, Ended, Answered, Again}
use Rattle.bridge_lines.specs.declared.event.Answered.{Answered as AnAnswer}
use Rattle.bridge_lines.specs.declared.message.Message.{Message as AMessage}
use Rattle.bridge_lines.specs.declared.message.Message.TheVariants as of
use Rattle.bridge_lines.specs.Acts.{Act, PublishBarrier, PublishMark, Position, Ready, Begin, End}
use Rattle.bridge_turns.specs.declared.link.Link.{Link}
use Rattle.bridge_turns.specs.declared.link.Link.TheVariants.{Away, Reading, InLine}
use Rattle.bridge_turns.specs.Publishing.{Batch, batch_of, named, all_added, closed}
use Rattle.bridge_turns.specs.Partitions.{Outcome, says, with_bridge, with_link, news, all_known, all_step_acts, all_count_acts, all_counts, gone, left}
use Rattle.bridge_turns.specs.Partitions.{all_reply_acts}

-- ---- what several turns do

-- what is said is that of a batch
abbrev pub with_batch : Outcome → Batch → List ℕ → Outcome
with_batch outcome batch published =
    record { state = record outcome.state { begun = batch.begun; published = published }; said = batch.said }

-- the batch that begins with what was said
abbrev pub batch_at : Outcome → Batch
batch_at outcome = batch_of (named outcome.state.begun (served_name outcome.state.bridge.role)) outcome.said

-- the records that weren't published are published
abbrev pub publishes : Outcome → Outcome
publishes outcome =
    with_batch outcome (closed (all_added (batch_at outcome) (news outcome.state.bridge.logs outcome.state.published)))
    (all_known outcome.state.bridge.logs)

-- nothing was published
abbrev pub unpublished : Outcome → Outcome
unpublished outcome = record {
  state = record outcome.state { published = replicate (length outcome.state.published) 0 };
  said = outcome.said;
}

-- the answers whose records count go
abbrev pub releases : Outcome → Outcome
releases outcome =
    says (with_bridge outcome (with_held outcome.state.bridge (left outcome.state.bridge.logs outcome.state.bridge.held)))
    (all_reply_acts (gone outcome.state.bridge.logs outcome.state.bridge.held))

-- a host is killed, if there is one, and the bridge follows
abbrev pub parts : Outcome → Outcome
parts outcome =
    with_bridge (if serves outcome.state.bridge.role then says outcome (End ∷ []) else outcome)
    (with_role outcome.state.bridge (parted_role outcome.state.bridge.role))

-- ---- the turns

-- the journals have this record
abbrev pub has : Indexed → Outcome → Outcome
has one outcome = with_bridge outcome (learned outcome.state.bridge one.shard one.text)

-- a bridge that has read what there was stands in line once it knows its journals
abbrev pub stands_in_line : Link → Outcome → Outcome
stands_in_line Away outcome = outcome
stands_in_line (Reading name) outcome = outcome
stands_in_line InLine outcome = says outcome (Ready ∷ [])

abbrev pub told : Outcome → Outcome
told outcome =
    if serves outcome.state.bridge.role then publishes outcome
    else if is_told outcome.state.bridge.role then outcome
    else stands_in_line outcome.state.link (with_bridge outcome (told_bridge outcome.state.bridge))

abbrev pub connected : ArrayVec ℕ → Outcome → Outcome
connected name outcome = says (with_link (parts outcome) (Reading name)) (PublishMark name.items ∷ [])

abbrev pub lost : Outcome → Outcome
lost outcome = with_link (parts outcome) Away

abbrev pub is_in_line : Link → Bool
is_in_line Away = false
is_in_line (Reading name) = false
is_in_line InLine = true

-- the barrier that a bridge makes
abbrev pub opening_of : BridgeState → Word → Opening
opening_of bridge name = record {
  number = bridge.last.number + 1;
  name = record { items = name };
  machine = record { items = bridge.machine };
}

abbrev pub calls : Word → Outcome → Outcome
calls name outcome =
    says (with_bridge outcome (with_role outcome.state.bridge (role.Beginning (opening_of outcome.state.bridge name))))
    (PublishBarrier (barrier_of (opening_of outcome.state.bridge name)) ∷ [])

abbrev pub called : Word → Outcome → Outcome
called name outcome =
    if is_in_line outcome.state.link && follows outcome.state.bridge.role then calls name outcome else outcome

-- what is said of a barrier that counts
abbrev pub turn_acts : Turn → List Act
turn_acts turn.Nothing = []
turn_acts turn.Starts = Begin ∷ []
turn_acts turn.Ends = End ∷ []
turn_acts turn.Yields = Ready ∷ []

abbrev pub opens : Opening → Outcome → Outcome
opens opening outcome =
    says (says (unpublished (with_bridge outcome (opened outcome.state.bridge opening)))
    (Position (barrier_of opening) ∷ [])) (turn_acts (turn_of outcome.state.bridge.role opening))

abbrev pub reads_opening : Opening → Outcome → Outcome
reads_opening opening outcome =
    if opening.number == outcome.state.bridge.last.number + 1 then opens opening outcome else outcome

-- records that count are put, and what waits for them goes
abbrev pub takes_records : Word → List Indexed → Outcome → Outcome
takes_records name records outcome =
    says (says (with_bridge outcome (with_logs outcome.state.bridge (logs_read outcome.state.bridge name records)))
    (all_step_acts (steps_read outcome.state.bridge name records) records))
    (all_count_acts (all_counts outcome.state.bridge.logs) (logs_read outcome.state.bridge name records))

abbrev pub reads_records : Word → List Indexed → Outcome → Outcome
reads_records name records outcome =
    if serves outcome.state.bridge.role
    then releases (takes_records name records outcome) else takes_records name records outcome

-- it has read up to its own mark
abbrev pub reads_mark : Link → Word → Outcome → Outcome
reads_mark Away word outcome = outcome
reads_mark (Reading name) word outcome =
    if is_word name.items word then says (with_link outcome InLine) (Ready ∷ []) else outcome
reads_mark InLine word outcome = outcome

abbrev pub reads : AMessage → Outcome → Outcome
reads (of.Opening opening) outcome = reads_opening opening outcome
reads (of.Records records) outcome = reads_records records.now.name.items (map indexed records.now.records.items) outcome
reads (of.Mark word) outcome = reads_mark outcome.state.link word.items outcome
reads of.Nothing outcome = outcome

-- the last record of a journal beyond those that count, if there is one: what a host that begins may stand on
abbrev pub last_of : List LogState → ℕ → List Held
last_of logs shard =
    if known_of (log_at logs shard) == (log_at logs shard).count then []
    else record { reply = None; place = Some (record { shard = shard; index = known_of (log_at logs shard) - 1 }) } ∷ []

unfoldable pub lasts : List LogState → List Held
lasts logs = flat_map (last_of logs) (range_with_len 0 LOGS)

abbrev pub loads : Outcome → Outcome
loads outcome =
    publishes (unpublished (with_bridge outcome
    (with_held outcome.state.bridge (outcome.state.bridge.held ++ lasts outcome.state.bridge.logs))))

abbrev pub loaded : Outcome → Outcome
loaded outcome = if serves outcome.state.bridge.role then loads outcome else outcome

abbrev pub ended : Outcome → Outcome
ended outcome =
    if serves outcome.state.bridge.role then with_bridge outcome (with_held outcome.state.bridge []) else outcome

abbrev pub answers : AnAnswer → Outcome → Outcome
answers answer outcome =
    releases (with_bridge outcome (with_held outcome.state.bridge
    (outcome.state.bridge.held ++ record { reply = Some answer.number; place = answer.place } ∷ [])))

abbrev pub answered : AnAnswer → Outcome → Outcome
answered answer outcome = if serves outcome.state.bridge.role then answers answer outcome else outcome

-- what didn't come back is written again
abbrev pub opens_again : Option Opening → Outcome → Outcome
opens_again None outcome = outcome
opens_again (Some own) outcome = says outcome (PublishBarrier (barrier_of own) ∷ [])

abbrev pub again_by : Link → Outcome → Outcome
again_by (Reading name) outcome = says outcome (PublishMark name.items ∷ [])
again_by Away outcome =
    if serves outcome.state.bridge.role then publishes (unpublished outcome)
    else opens_again (waited_for outcome.state.bridge.role) outcome
again_by InLine outcome =
    if serves outcome.state.bridge.role then publishes (unpublished outcome)
    else opens_again (waited_for outcome.state.bridge.role) outcome

-- the turn at an event
abbrev pub turned : Event → Outcome → Outcome
turned (Has one) outcome = has (indexed one) outcome
turned Told outcome = told outcome
turned (Connected name) outcome = connected name outcome
turned Lost outcome = lost outcome
turned (Called name) outcome = called name.items outcome
turned (Message message) outcome = reads message outcome
turned Loaded outcome = loaded outcome
turned Ended outcome = ended outcome
turned (Answered answer) outcome = answered answer outcome
turned Again outcome = again_by outcome.state.link outcome
