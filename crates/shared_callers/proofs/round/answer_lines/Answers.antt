-- The lines that waited were answered, and the texts of their answers came back.
use Rattle.std.proofs.Common.{◌<◌, length, [], sym, ◌∙◌, arith, rules}
use Rattle.shared_callers.proofs.HandingOver.{as-many-lanes}
use Rattle.shared_callers.proofs.Rounding.{dealt-round, due-answered, more, seated-round, texts-due}
use Rattle.shared_callers.proofs.Serving.{free-alike, rooms-answered, same-length}
use Rattle.shared_callers.proofs.Writing.{same-rooms}
use Rattle.shared_callers.proofs.round.answer_lines.Goals as goal

pub answer_at_once-requires-clause-free : goal.answer_at_once-requires-clause-free
answer_at_once-requires-clause-free g c lifetimes outlives =
    free-alike c.args.host.now c.args.lanes.now c.give_lines-given.new.lanes c.give_lines-given.ensures.lanes.0 c.requires.free

pub take_texts-requires-clause-rooms : goal.take_texts-requires-clause-rooms
take_texts-requires-clause-rooms g c =
    let gave = c.give_lines-given.ensures in
    rooms-answered c.args.host.now c.give_lines-given.new.lanes c.answer_at_once.new.lanes c.answer_at_once.ensures ∙ gave.lanes.1 ∙ c.requires.rooms
    ∙ sym gave.rooms.rooms

pub take_texts-requires-clause-fits : goal.take_texts-requires-clause-fits
take_texts-requires-clause-fits g c =
    let gave = c.give_lines-given.ensures in
    let half = c.args.half.now in
    omega (arith, gave.counts.1, half.fit.0, gave.rooms.room)

pub take_texts-requires-clause-due : goal.take_texts-requires-clause-due
take_texts-requires-clause-due g c =
    let gave = c.give_lines-given.ensures in
    let half = c.args.half.now in
    let some : 0 < length half.parts.items = search rules in
    let long = same-length c.args.lanes.now c.give_lines-given.new.lanes gave.lanes.0
    ∙ as-many-lanes c.args.lanes.now half.parts.items c.requires.rooms in
    due-answered c.args.host.now c.give_lines-given.new.lanes c.answer_at_once.new.lanes c.answer_at_once.ensures half.parts.items half.first half.next
    half.waiting _ _ gave.counts.0 gave.counts.1 (omega (arith, some, long)) long (λ before waiting are. (gave.given before waiting are).0) half.waits

pub returns-clause-dealt : goal.returns-clause-dealt
returns-clause-dealt g c =
    λ opening lines answers waiting dealt.
    let gave = c.give_lines-given.ensures in
    let took = c.take_texts.ensures in
    let half = c.args.half.now in
    let mid = c.give_lines-given.new.lanes in
    let done = c.answer_at_once.new.lanes in
    let some : 0 < length half.parts.items = search rules in
    let long = same-length c.args.lanes.now mid gave.lanes.0 ∙ as-many-lanes c.args.lanes.now half.parts.items c.requires.rooms in
    let turns = gave.given lines waiting dealt.waits in
    let some_mid : 0 < length mid = omega (arith, some, long) in
    let dues = texts-due c.args.host.now c.args.lanes.now mid done c.take_texts.new.lanes gave.lanes.0 c.answer_at_once.ensures took.lanes.0 opening half
    lines waiting answers [] dealt turns.0 some_mid long c.give_lines-given.result.first c.give_lines-given.result.count gave.counts.0 gave.counts.1 in (
      more c.args.host.now c.args.lanes.now mid done c.take_texts.new.lanes gave.lanes.0 c.answer_at_once.ensures took.lanes.0 opening half
          lines waiting answers [] dealt turns.0 some_mid long,
      dealt-round c.args.host.now c.args.lanes.now mid done c.take_texts.new.lanes gave.lanes.0 c.answer_at_once.ensures took.lanes.0 opening half
          lines waiting answers [] dealt turns.0 some_mid long c.take_texts.new.self [] (took.waiting _ [] turns.1) (took.due _ _ dues),
    )

pub returns-clause-seated : goal.returns-clause-seated
returns-clause-seated g c =
    seated-round c.args.host.now c.args.lanes.now c.give_lines-given.new.lanes c.answer_at_once.new.lanes c.take_texts.new.lanes
    c.give_lines-given.ensures.lanes.0 c.answer_at_once.ensures c.take_texts.ensures.lanes.0

pub returns-clause-rooms : goal.returns-clause-rooms
returns-clause-rooms g c =
    let gave = c.give_lines-given.ensures in
    let took = c.take_texts.ensures in (
      took.lanes.1 ∙ rooms-answered c.args.host.now c.give_lines-given.new.lanes c.answer_at_once.new.lanes c.answer_at_once.ensures ∙ gave.lanes.1,
      same-rooms c.args.half.now c.give_lines-given.new.self c.take_texts.new.self gave.rooms took.rooms,
    )
