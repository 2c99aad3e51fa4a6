-- The lines that waited were answered, while texts were written and lines taken; the texts of the answers came back.
use Rattle.std.proofs.Common.{◌<◌, ℕ, List, length, ◌++◌, map, sym, subst, ◌∙◌, arith, rules}
use Rattle.std.proofs.lemmas.List.Folds.{flat_map-map}
use Rattle.issuer_base.specs.Sink.{WritesAll}
use Rattle.line_reader.specs.Reading.{kept}
use Rattle.answer_text.specs.AnswerText.{printed}
use Rattle.shared_callers.proofs.HandingOver.{as-many-lanes}
use Rattle.shared_callers.proofs.Rounding.{dealt-round, due-answered, more, seated-round, texts-due}
use Rattle.shared_callers.proofs.Serving.{free-alike, rooms-answered, same-length}
use Rattle.shared_callers.proofs.Writing.{same-rooms}
use Rattle.shared_callers.proofs.round.answer_and_exchange.Goals as goal

pub exchange_beside-written-requires-clause-free : goal.exchange_beside-written-requires-clause-free
exchange_beside-written-requires-clause-free g c lifetimes outlives =
    let half = c.args.half.now in
    let some : 0 < length half.parts.items = search rules in
    let long = same-length c.args.lanes.now c.give_lines-given.new.lanes c.give_lines-given.ensures.lanes.0 in (
      free-alike c.args.host.now c.args.lanes.now c.give_lines-given.new.lanes c.give_lines-given.ensures.lanes.0 c.requires.free,
      omega (arith, some, long, as-many-lanes c.args.lanes.now half.parts.items c.requires.rooms),
    )

pub take_texts-requires-clause-rooms : goal.take_texts-requires-clause-rooms
take_texts-requires-clause-rooms g c =
    let gave = c.give_lines-given.ensures in
    rooms-answered c.args.host.now c.give_lines-given.new.lanes c.exchange_beside-written.new.lanes c.exchange_beside-written.ensures.lanes ∙ gave.lanes.1 ∙ c.requires.rooms
    ∙ sym gave.rooms.rooms ∙ sym c.exchange_beside-written.ensures.exchanged.rooms.rooms

pub take_texts-requires-clause-fits : goal.take_texts-requires-clause-fits
take_texts-requires-clause-fits g c =
    let gave = c.give_lines-given.ensures in
    let half = c.args.half.now in
    omega (arith, gave.counts.1, half.fit.0, gave.rooms.room, c.exchange_beside-written.ensures.exchanged.rooms.room)

pub take_texts-requires-clause-due : goal.take_texts-requires-clause-due
take_texts-requires-clause-due g c =
    let gave = c.give_lines-given.ensures in
    let half = c.args.half.now in
    let some : 0 < length half.parts.items = search rules in
    let long = same-length c.args.lanes.now c.give_lines-given.new.lanes gave.lanes.0
    ∙ as-many-lanes c.args.lanes.now half.parts.items c.requires.rooms in
    due-answered c.args.host.now c.give_lines-given.new.lanes c.exchange_beside-written.new.lanes c.exchange_beside-written.ensures.lanes half.parts.items half.first half.next
    half.waiting _ _ gave.counts.0 gave.counts.1 (omega (arith, some, long)) long (λ before waiting are. (gave.given before waiting are).0) half.waits

pub returns-clause-dealt : goal.returns-clause-dealt
returns-clause-dealt g c = record {
  each = λ opening lines answers due waiting dealt.
      let gave = c.give_lines-given.ensures in
      let exchanged = c.exchange_beside-written.ensures.exchanged in
      let took = c.take_texts.ensures in
      let half = c.args.half.now in
      let mid = c.give_lines-given.new.lanes in
      let done = c.exchange_beside-written.new.lanes in
      let some : 0 < length half.parts.items = search rules in
      let long = same-length c.args.lanes.now mid gave.lanes.0 ∙ as-many-lanes c.args.lanes.now half.parts.items c.requires.rooms in
      let turns = gave.given lines waiting dealt.waits in
      let some_mid : 0 < length mid = omega (arith, some, long) in
      let wrote = exchanged.written (map printed dealt.taken) (map printed due) (gave.due _ _ dealt.dues) in
      let lines_dealt = exchanged.dealt (lines ++ waiting) turns.1 in
      let dues = texts-due c.args.host.now c.args.lanes.now mid done c.take_texts.new.lanes gave.lanes.0 c.exchange_beside-written.ensures.lanes took.lanes.0
      opening half lines waiting answers due dealt turns.0 some_mid long c.give_lines-given.result.first c.give_lines-given.result.count gave.counts.0
      gave.counts.1 in (
        more c.args.host.now c.args.lanes.now mid done c.take_texts.new.lanes gave.lanes.0 c.exchange_beside-written.ensures.lanes took.lanes.0 opening half
            lines waiting answers due dealt turns.0 some_mid long,
        lines_dealt.0,
        dealt-round c.args.host.now c.args.lanes.now mid done c.take_texts.new.lanes gave.lanes.0 c.exchange_beside-written.ensures.lanes took.lanes.0
            opening half lines waiting answers due dealt turns.0 some_mid long c.take_texts.new.self (map kept lines_dealt.0)
            (took.waiting _ _ lines_dealt.1) (took.due _ _ dues),
        lines_dealt.2,
        subst (WritesAll (g.W.Sink.held c.args.out.now) (g.W.Sink.held c.exchange_beside-written.new.out) c.exchange_beside-written.result)
            (flat_map-map (λ (text : List ℕ). text) printed due) wrote.1,
        lines_dealt.3,
      );
  read = c.exchange_beside-written.ensures.exchanged.read;
}

pub returns-clause-seated : goal.returns-clause-seated
returns-clause-seated g c =
    seated-round c.args.host.now c.args.lanes.now c.give_lines-given.new.lanes c.exchange_beside-written.new.lanes c.take_texts.new.lanes
    c.give_lines-given.ensures.lanes.0 c.exchange_beside-written.ensures.lanes c.take_texts.ensures.lanes.0

pub returns-clause-rooms : goal.returns-clause-rooms
returns-clause-rooms g c =
    let gave = c.give_lines-given.ensures in
    let took = c.take_texts.ensures in (
      took.lanes.1 ∙ rooms-answered c.args.host.now c.give_lines-given.new.lanes c.exchange_beside-written.new.lanes c.exchange_beside-written.ensures.lanes ∙ gave.lanes.1,
      same-rooms c.args.half.now c.exchange_beside-written.new.half c.take_texts.new.self
          (same-rooms c.args.half.now c.give_lines-given.new.self c.exchange_beside-written.new.half gave.rooms
          c.exchange_beside-written.ensures.exchanged.rooms) took.rooms,
    )
