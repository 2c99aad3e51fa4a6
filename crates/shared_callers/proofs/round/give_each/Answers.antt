-- One lane more has the lines of its part, which has none.
use Rattle.std.proofs.Common.{◌≡◌, length, get_or, arith, ◌∙◌}
use Rattle.std.proofs.Math.Seq.{map-set_same}
use Rattle.shared_callers.specs.OneLane.{waiting_lines}
use Rattle.shared_callers.specs.Parts.{lines_of, texts_of}
use Rattle.shared_callers.proofs.HandingOver.{left-there, moved-all, none-all, none-more, places-more, rooms-kept, rooms-there}
use Rattle.shared_callers.proofs.Lists.{left-more, maps-long, moved-more}
use Rattle.shared_callers.proofs.round.give_each.Goals as goal

pub give_lines-requires : goal.give_lines-requires
give_lines-requires c =
    let now = c.loop-index in
    rooms-there now.parts now.lanes (rooms-kept now.parts now.lanes c.args.parts.now c.args.lanes.now now.invariant.places c.requires) now.index
    c.index-lanes-index.result c.index-parts-index.result (omega (arith, c.loop-index-test.true, now.auto.lanes))

pub loop-index-preserved : goal.loop-index-preserved
loop-index-preserved c =
    let now = c.loop-index in
    let before = now.invariant in
    let gave = c.give_lines.ensures in
    let lane = c.index-lanes-index.result in
    let part = c.index-parts-index.result in
    let long = maps-long (λ lane. lane.lines.room) (λ part. part.lines.room) c.args.lanes.now c.args.parts.now c.requires in
    record {
      places = places-more now.parts now.lanes now.index lane c.give_lines.new.lane part c.give_lines.new.self c.args.parts.now c.args.lanes.now gave.pass
          gave.room.1 gave.room.0 before.places;
      texts = map-set_same texts_of now.parts now.index c.give_lines.new.self part gave.texts ∙ before.texts;
      lines = moved-more waiting_lines lines_of now.index now.lanes c.args.parts.now c.give_lines.new.lane (get_or now.parts now.index part)
          (left-there now.index now.parts c.args.parts.now part (omega (arith, c.loop-index-test.true, now.auto.parts, long)) before.left) gave.given
          before.lines;
      left = left-more now.index now.parts c.args.parts.now c.give_lines.new.self before.left;
      none = none-more now.index now.parts c.give_lines.new.self gave.none before.none;
    }

pub returns : goal.returns
returns c =
    let now = c.loop-index in
    let long : length c.args.lanes.now ≡ length c.args.parts.now =
    maps-long (λ lane. lane.lines.room) (λ part. part.lines.room) c.args.lanes.now c.args.parts.now c.requires in
    record {
      places = now.invariant.places;
      texts = now.invariant.texts;
      lines = moved-all waiting_lines lines_of now.index now.lanes c.args.parts.now (now.auto.lanes ∙ long)
          (omega (arith, now.auto.lanes, c.loop-index-test.false)) now.invariant.lines;
      none = none-all now.index now.parts (omega (arith, now.auto.parts, long, c.loop-index-test.false)) now.invariant.none;
    }
