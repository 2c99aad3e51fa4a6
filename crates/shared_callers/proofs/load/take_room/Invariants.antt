-- The rooms and parts so far are allocated, each for its number of lines.
use Rattle.std.proofs.Common.{◌≡◌, ◌≤◌, [], All, vec_len, vec_capacity}
use Rattle.shared_callers.specs.OneLane.{places_in}
use Rattle.shared_callers.specs.Parts.{lines_of, texts_of}
use Rattle.shared_callers.proofs.load.take_room.Given as goal

abbrev pub invariant-loop : goal.invariant-loop
invariant-loop l = record {
  count : vec_len l.rooms ≡ l.counter;
  parts_count : vec_len l.parts ≡ l.counter;
  room : l.count ≤ vec_capacity l.rooms;
  parts_room : l.count ≤ vec_capacity l.parts;
  each : All (λ room. places_in room ≡ l.each) l.rooms.items;
  each_part : All (λ part. part.lines.room ≡ l.each) l.parts.items;
  none : All (λ part. (lines_of part ≡ []) × (texts_of part ≡ [])) l.parts.items;
}
