-- The lines that waited are the lanes' now.
use Rattle.std.proofs.Common.{refl, rules}
use Rattle.shared_callers.proofs.HandingOver.{given-dues, given-turns, given-waits, lent-over, same-room-all, still-given, still-owed}
use Rattle.shared_callers.proofs.half_block.HalfBlock.give_lines.Goals as goal

pub invariant_of-self-clause-each_room : goal.invariant_of-self-clause-each_room
invariant_of-self-clause-each_room c =
    let half = c.args.self.now in
    let over = lent-over half.parts.len half.parts.items c.as_mut_slice.result.now c.give_each.new.parts c.args.lanes.now c.give_each.new.lanes
    c.as_mut_slice.ensures.value (search rules) c.give_each.ensures in
    same-room-all half.parts.len half.room half.parts.items _ over.places.part_room half.each_room

pub invariant_of-self-clause-waits : goal.invariant_of-self-clause-waits
invariant_of-self-clause-waits c =
    let half = c.args.self.now in
    let over = lent-over half.parts.len half.parts.items c.as_mut_slice.result.now c.give_each.new.parts c.args.lanes.now c.give_each.new.lanes
    c.as_mut_slice.ensures.value (search rules) c.give_each.ensures in
    still-given half.parts.items _ c.args.lanes.now c.give_each.new.lanes over half.first half.next half.waiting half.waits

pub invariant_of-self-clause-dues : goal.invariant_of-self-clause-dues
invariant_of-self-clause-dues c =
    let half = c.args.self.now in
    let over = lent-over half.parts.len half.parts.items c.as_mut_slice.result.now c.give_each.new.parts c.args.lanes.now c.give_each.new.lanes
    c.as_mut_slice.ensures.value (search rules) c.give_each.ensures in
    still-owed half.parts.items _ c.args.lanes.now c.give_each.new.lanes over half.from half.due half.dues

pub returns-clause-given : goal.returns-clause-given
returns-clause-given c =
    λ before waiting are.
    let half = c.args.self.now in
    let over = lent-over half.parts.len half.parts.items c.as_mut_slice.result.now c.give_each.new.parts c.args.lanes.now c.give_each.new.lanes
    c.as_mut_slice.ensures.value (search rules) c.give_each.ensures in (
      given-turns half.parts.items _ c.args.lanes.now c.give_each.new.lanes over before waiting are.turns,
      given-waits half.parts.items _ c.args.lanes.now c.give_each.new.lanes over half.first half.next half.waiting before waiting are,
    )

pub returns-clause-due : goal.returns-clause-due
returns-clause-due c =
    λ taken due are.
    let half = c.args.self.now in
    let over = lent-over half.parts.len half.parts.items c.as_mut_slice.result.now c.give_each.new.parts c.args.lanes.now c.give_each.new.lanes
    c.as_mut_slice.ensures.value (search rules) c.give_each.ensures in
    given-dues half.parts.items _ c.args.lanes.now c.give_each.new.lanes over half.from half.due taken due are

pub returns-clause-lanes : goal.returns-clause-lanes
returns-clause-lanes c = (c.give_each.ensures.places.passes, c.give_each.ensures.places.lane_room)

pub returns-clause-rooms : goal.returns-clause-rooms
returns-clause-rooms c =
    let half = c.args.self.now in
    let over = lent-over half.parts.len half.parts.items c.as_mut_slice.result.now c.give_each.new.parts c.args.lanes.now c.give_each.new.lanes
    c.as_mut_slice.ensures.value (search rules) c.give_each.ensures in
    record { rooms = over.places.part_room; room = refl }
