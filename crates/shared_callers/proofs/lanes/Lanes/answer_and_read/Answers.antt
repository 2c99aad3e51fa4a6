-- The lines that waited were answered, while texts were written and lines taken; all passes are free and whole again.
use Rattle.std.proofs.Common.{List, length, map, ◌++◌, refl, sym, ap, subst, ◌∙◌, rules, All}
use Rattle.host_calls.specs.Passes.{IsFree}
use Rattle.shared_shards.specs.ShardSeats.{opening_in}
use Rattle.line_reader.specs.Reading.{kept}
use Rattle.shared_callers.specs.Dealt.{HasDealt}
use Rattle.shared_callers.specs.OneLane.{lane_rooms}
use Rattle.shared_callers.specs.Seated.{AreSeated}
use Rattle.shared_callers.specs.declared.lane.Lane.{Lane}
use Rattle.shared_callers.proofs.HandingOver.{lanes-back}
use Rattle.shared_callers.proofs.Lists.{maps-long}
use Rattle.shared_callers.proofs.lanes.Lanes.answer_and_read.Goals as goal

pub answer_and_exchange-requires-clause-free : goal.answer_and_exchange-requires-clause-free
answer_and_exchange-requires-clause-free g c lifetimes outlives =
    let lanes = c.args.self.now in
    subst (All (λ (lane : Lane). IsFree lanes.host lane.pass)) (sym c.as_mut_slice.ensures.value) lanes.seated.free

pub answer_and_exchange-requires-clause-rooms : goal.answer_and_exchange-requires-clause-rooms
answer_and_exchange-requires-clause-rooms g c lifetimes outlives = ap lane_rooms c.as_mut_slice.ensures.value ∙ c.args.self.now.rooms

pub invariant_of-self-clause-seated : goal.invariant_of-self-clause-seated
invariant_of-self-clause-seated g c =
    let lanes = c.args.self.now in
    let done = c.answer_and_exchange.ensures in
    let back = lanes-back lanes.lanes.len lanes.lanes.items c.as_mut_slice.result.now c.answer_and_exchange.new.lanes c.as_mut_slice.ensures.value (search rules)
    done.rooms.0 in
    subst (AreSeated lanes.host lanes.first) (sym back)
    (done.seated lanes.first (subst (AreSeated lanes.host lanes.first) (sym c.as_mut_slice.ensures.value) lanes.seated))

pub invariant_of-self-clause-rooms : goal.invariant_of-self-clause-rooms
invariant_of-self-clause-rooms g c =
    let lanes = c.args.self.now in
    let done = c.answer_and_exchange.ensures in
    let back = lanes-back lanes.lanes.len lanes.lanes.items c.as_mut_slice.result.now c.answer_and_exchange.new.lanes c.as_mut_slice.ensures.value (search rules)
    done.rooms.0 in
    ap lane_rooms back ∙ done.rooms.0 ∙ ap lane_rooms c.as_mut_slice.ensures.value ∙ lanes.rooms ∙ sym done.rooms.1.rooms

pub returns-clause-served : goal.returns-clause-served
returns-clause-served g c =
    λ lines answers due waiting has.
    let lanes = c.args.self.now in
    let opening = opening_in lanes.host.turns in
    let done = c.answer_and_exchange.ensures in
    let back = lanes-back lanes.lanes.len lanes.lanes.items c.as_mut_slice.result.now c.answer_and_exchange.new.lanes c.as_mut_slice.ensures.value
    (search rules) done.rooms.0 in
    let all = done.dealt.each opening lines answers due waiting
    (subst (λ (old : List Lane). HasDealt lanes.host.issuer opening old lanes.half lines answers due waiting) (sym c.as_mut_slice.ensures.value) has.dealt) in
    record {
      more = all.0;
      taken = all.1;
      served = record {
        dealt = subst
            (λ (new : List Lane). HasDealt lanes.host.issuer opening new c.answer_and_exchange.new.half (lines ++ waiting) (answers ++ all.0) all.0
            (map kept all.1)) (sym back) all.2;
      };
      in_hand = all.3;
      written = all.4;
      failed = all.5;
    }

pub returns-clause-host : goal.returns-clause-host
returns-clause-host g c =
    let lanes = c.args.self.now in
    let done = c.answer_and_exchange.ensures in
    let back = lanes-back lanes.lanes.len lanes.lanes.items c.as_mut_slice.result.now c.answer_and_exchange.new.lanes c.as_mut_slice.ensures.value (search rules)
    done.rooms.0 in
    record {
      same_issuer = refl;
      same_opening = refl;
      same_callers =
          ap (λ (lanes : List Lane). length lanes) back
          ∙ maps-long (λ lane. lane.lines.room) (λ lane. lane.lines.room) c.answer_and_exchange.new.lanes c.as_mut_slice.result.now done.rooms.0
          ∙ ap (λ (lanes : List Lane). length lanes) c.as_mut_slice.ensures.value;
    }

pub returns-clause-reader : goal.returns-clause-reader
returns-clause-reader g c = c.answer_and_exchange.ensures.dealt.read
