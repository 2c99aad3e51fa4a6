-- The texts of the lanes' answers are due now.
use Rattle.std.proofs.Common.{◌<◌, length, refl, rules}
use Rattle.shared_callers.proofs.HandingOver.{back-dues, back-waits, due-within, lent-back, same-room-all, still-back, still-waits}
use Rattle.shared_callers.proofs.half_block.HalfBlock.take_texts.Goals as goal

pub invariant_of-self-clause-each_room : goal.invariant_of-self-clause-each_room
invariant_of-self-clause-each_room c =
    let half = c.args.self.now in
    let back = lent-back half.parts.len half.parts.items c.as_mut_slice.result.now c.take_each.new.parts c.args.lanes.now c.take_each.new.lanes
    c.as_mut_slice.ensures.value (search rules) c.take_each.ensures in
    same-room-all half.parts.len half.room half.parts.items _ back.places.part_room half.each_room

pub invariant_of-self-clause-within : goal.invariant_of-self-clause-within
invariant_of-self-clause-within c =
    let half = c.args.self.now in
    let some : 0 < length half.parts.items = search rules in
    let below : c.args.given.first < length half.parts.items =
    due-within c.args.lanes.now half.parts.items c.requires.rooms c.args.given.first c.args.given.count c.requires.due some in
    (half.within.0, half.within.1, search rules)

pub invariant_of-self-clause-waits : goal.invariant_of-self-clause-waits
invariant_of-self-clause-waits c =
    let half = c.args.self.now in
    let back = lent-back half.parts.len half.parts.items c.as_mut_slice.result.now c.take_each.new.parts c.args.lanes.now c.take_each.new.lanes
    c.as_mut_slice.ensures.value (search rules) c.take_each.ensures in
    still-waits half.parts.items _ c.args.lanes.now c.take_each.new.lanes back c.requires.rooms half.first half.next half.waiting half.waits

pub invariant_of-self-clause-dues : goal.invariant_of-self-clause-dues
invariant_of-self-clause-dues c =
    let half = c.args.self.now in
    let back = lent-back half.parts.len half.parts.items c.as_mut_slice.result.now c.take_each.new.parts c.args.lanes.now c.take_each.new.lanes
    c.as_mut_slice.ensures.value (search rules) c.take_each.ensures in
    still-back half.parts.items _ c.args.lanes.now c.take_each.new.lanes back c.requires.rooms _ _ c.requires.due

pub returns-clause-due : goal.returns-clause-due
returns-clause-due c =
    λ taken due are.
    let half = c.args.self.now in
    let back = lent-back half.parts.len half.parts.items c.as_mut_slice.result.now c.take_each.new.parts c.args.lanes.now c.take_each.new.lanes
    c.as_mut_slice.ensures.value (search rules) c.take_each.ensures in
    back-dues half.parts.items _ c.args.lanes.now c.take_each.new.lanes back c.requires.rooms _ _ taken due are

pub returns-clause-waiting : goal.returns-clause-waiting
returns-clause-waiting c =
    λ before waiting are.
    let half = c.args.self.now in
    let back = lent-back half.parts.len half.parts.items c.as_mut_slice.result.now c.take_each.new.parts c.args.lanes.now c.take_each.new.lanes
    c.as_mut_slice.ensures.value (search rules) c.take_each.ensures in
    back-waits half.parts.items _ c.args.lanes.now c.take_each.new.lanes back c.requires.rooms half.first half.next half.waiting before waiting are

pub returns-clause-lanes : goal.returns-clause-lanes
returns-clause-lanes c = (c.take_each.ensures.places.passes, c.take_each.ensures.places.lane_room)

pub returns-clause-rooms : goal.returns-clause-rooms
returns-clause-rooms c =
    let half = c.args.self.now in
    let back = lent-back half.parts.len half.parts.items c.as_mut_slice.result.now c.take_each.new.parts c.args.lanes.now c.take_each.new.lanes
    c.as_mut_slice.ensures.value (search rules) c.take_each.ensures in
    record { rooms = back.places.part_room; room = refl }
