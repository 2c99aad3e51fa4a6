-- One more room and one more part are allocated.
use Rattle.std.proofs.Common.{◌≡◌, [], rules}
use Rattle.std.proofs.lemmas.List.Elements.{All-push}
use Rattle.shared_callers.specs.OneLane.{places_in}
use Rattle.shared_callers.specs.Parts.{lines_of, texts_of}
use Rattle.shared_callers.specs.declared.lane.LaneRoom.{LaneRoom}
use Rattle.shared_callers.specs.declared.part.Part.{Part}
use Rattle.shared_callers.proofs.load.take_room.Goals as goal

pub loop-preserved : goal.loop-preserved
loop-preserved c =
    let before = c.loop.invariant in
    record {
      count = search rules;
      parts_count = search rules;
      room = search rules;
      parts_room = search rules;
      each = rw c.push_reserved.ensures.items
          (All-push (λ (room : LaneRoom). places_in room ≡ c.args.each) c.loop.rooms.items c.in_ok-new.field-0 before.each c.in_ok-new.ensures);
      each_part = rw c.push_reserved-in-loop.ensures.items
          (All-push (λ (part : Part). part.lines.room ≡ c.args.each) c.loop.parts.items c.in_ok-new-2.field-0 before.each_part
          c.in_ok-new-2.ensures.room);
      none = rw c.push_reserved-in-loop.ensures.items
          (All-push (λ (part : Part). (lines_of part ≡ []) × (texts_of part ≡ [])) c.loop.parts.items c.in_ok-new-2.field-0 before.none
          c.in_ok-new-2.ensures.none);
    }
