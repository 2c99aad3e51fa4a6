-- One part more has the texts of its lane.
use Rattle.std.proofs.Common.{◌≡◌, length, get_or, arith, sym, ◌∙◌, ap}
use Rattle.std.proofs.Math.Seq.{map-set_same}
use Rattle.shared_callers.specs.OneLane.{answer_texts}
use Rattle.shared_callers.specs.Parts.{lines_of, texts_of}
use Rattle.line_reader.specs.KeptLines.{KeptLines}
use Rattle.shared_callers.proofs.HandingOver.{left-there, moved-all, places-more, rooms-kept, rooms-there}
use Rattle.shared_callers.proofs.Lists.{left-more, maps-long, moved-more}
use Rattle.shared_callers.proofs.round.take_each.Goals as goal

pub take_texts-requires : goal.take_texts-requires
take_texts-requires c =
    let now = c.loop-index in
    rooms-there now.parts now.lanes (rooms-kept now.parts now.lanes c.args.parts.now c.args.lanes.now now.invariant.places c.requires) now.index
    c.index-lanes-index.result c.index-parts-index.result (omega (arith, c.loop-index-test.true, now.auto.lanes))

pub loop-index-preserved : goal.loop-index-preserved
loop-index-preserved c =
    let now = c.loop-index in
    let before = now.invariant in
    let took = c.take_texts.ensures in
    let lane = c.index-lanes-index.result in
    let part = c.index-parts-index.result in
    let same = ap (λ (lines : KeptLines). lines.lines) took.lines in
    record {
      places = places-more now.parts now.lanes now.index lane c.take_texts.new.lane part c.take_texts.new.self c.args.parts.now c.args.lanes.now took.pass
          took.room (ap (λ (lines : KeptLines). lines.room) took.lines) before.places;
      lines = map-set_same lines_of now.parts now.index c.take_texts.new.self part same ∙ before.lines;
      texts = moved-more texts_of answer_texts now.index now.parts c.args.lanes.now c.take_texts.new.self (get_or now.lanes now.index lane)
          (left-there now.index now.lanes c.args.lanes.now lane (omega (arith, c.loop-index-test.true, now.auto.lanes)) before.left) took.taken before.texts;
      left = left-more now.index now.lanes c.args.lanes.now c.take_texts.new.lane before.left;
    }

pub returns : goal.returns
returns c =
    let now = c.loop-index in
    let long : length now.parts ≡ length c.args.lanes.now =
    now.auto.parts ∙ sym (maps-long (λ lane. lane.lines.room) (λ part. part.lines.room) c.args.lanes.now c.args.parts.now c.requires) in
    record {
      places = now.invariant.places;
      lines = now.invariant.lines;
      texts = moved-all texts_of answer_texts now.index now.parts c.args.lanes.now long (omega (arith, long, c.loop-index-test.false)) now.invariant.texts;
    }
