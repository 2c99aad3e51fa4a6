-- The lanes so far are seated and have had no line, and each room that is left is for a later lane.
use Rattle.std.proofs.Common.{◌≡◌, ℕ, ◌+◌, ◌≤◌, All, vec_len, vec_capacity}
use Rattle.shared_shards.specs.ShardSeats.{opening_in}
use Rattle.shared_callers.specs.OneLane.{IsNewLane, places_in}
use Rattle.shared_callers.specs.Seated.{AreSeated}
use Rattle.shared_callers.proofs.load.seat_all.Given as goal

abbrev pub invariant-loop-room : goal.invariant-loop-room
invariant-loop-room g l = record {
  seated : AreSeated l.host l.first l.lanes.items;
  new : All (IsNewLane l.host.issuer (opening_in l.host.turns)) l.lanes.items;
  count : vec_len l.lanes + vec_len l.rooms ≡ vec_len l.fn.rooms;
  number : l.number + vec_len l.rooms ≡ vec_len l.fn.rooms;
  capacity : vec_len l.fn.rooms ≤ vec_capacity l.lanes;
  rooms : (count : ℕ) → All (λ room. places_in room ≡ count) l.fn.rooms.items → All (λ room. places_in room ≡ count) l.rooms.items;
  room : (count : ℕ) → All (λ room. places_in room ≡ count) l.fn.rooms.items → All (λ lane. lane.lines.room ≡ count) l.lanes.items;
}

abbrev pub decreases-loop-room : goal.decreases-loop-room
decreases-loop-room g l = goal.left-loop-room g l
