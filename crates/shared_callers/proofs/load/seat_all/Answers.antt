-- One more lane is seated, and has had no line.
use Rattle.std.proofs.Common.{◌≡◌, rules, sym, ap, ◌∙◌, subst}
use Rattle.std.proofs.lemmas.List.Elements.{All-pop, All-push}
use Rattle.shared_shards.specs.ShardSeats.{opening_in}
use Rattle.host_calls.specs.Passes.{claims_of, logs_of, IsFree}
use Rattle.shared_callers.specs.OneLane.{IsNewLane, places_in}
use Rattle.shared_callers.specs.declared.lane.Lane.{Lane}
use Rattle.shared_callers.specs.declared.lane.LaneRoom.{LaneRoom}
use Rattle.shared_callers.proofs.Seating.{new-served, seated-more}
use Rattle.shared_callers.proofs.load.seat_all.Goals as goal

pub loop-room-preserved : goal.loop-room-preserved
loop-room-preserved g c =
    let before = c.loop-room.invariant in
    let host = c.args.host.now in
    let lanes = c.loop-room.lanes.items in
    let lane : Lane = c.new-lane.result in
    let pass_is = c.new-lane.ensures.pass in
    let lane_free = subst (IsFree host) (sym pass_is) c.split-pass.ensures.new.0 in
    let claims = ap claims_of pass_is ∙ c.split-pass.ensures.new.1 in
    let logs = ap logs_of pass_is ∙ c.split-pass.ensures.new.2 in
    record {
      seated = rw c.push_reserved.ensures.items
          (seated-more host c.loop-room.first c.split-pass.new.pass lanes lane c.loop-room.first.claims.named c.split-pass.ensures.pass.0
          c.split-pass.ensures.pass.1 c.split-pass.ensures.pass.2 lane_free claims before.seated);
      new = rw c.push_reserved.ensures.items (All-push (IsNewLane host.issuer (opening_in host.turns)) lanes lane before.new
          (new-served host.issuer (opening_in host.turns) c.loop-room.first lane.pass claims logs before.seated.opened));
      count = search rules;
      number = search rules;
      capacity = search rules;
      rooms = λ count all.
          (All-pop (λ (room : LaneRoom). places_in room ≡ count) c.loop-room.rooms.items c.pop.new.self.items c.pop.result c.pop.ensures.items
          (before.rooms count all)).0;
      room = λ count all.
          let popped = All-pop (λ (room : LaneRoom). places_in room ≡ count) c.loop-room.rooms.items c.pop.new.self.items c.pop.result c.pop.ensures.items
          (before.rooms count all) in
          rw c.push_reserved.ensures.items
          (All-push (λ (lane : Lane). lane.lines.room ≡ count) lanes lane (before.room count all) (c.new-lane.ensures.room ∙ rw c.in-Some.is at popped.1));
    }
