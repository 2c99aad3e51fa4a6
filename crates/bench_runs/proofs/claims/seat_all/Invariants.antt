-- The callers so far are seated, and the seat is whole with all of theirs.
use Rattle.std.proofs.Common.{◌≡◌, ◌≤◌, ◌++◌, All, vec_len, vec_capacity}
use Rattle.std.specs.List.{flat_map}
use Rattle.shared_seats.specs.SeatNames.{IsWhole}
use Rattle.claim_words.specs.Seats.{view_of, IsOf}
use Rattle.bench_runs.proofs.claims.seat_all.Given as goal

abbrev pub invariant-loop : goal.invariant-loop
invariant-loop l = record {
  seat : IsOf l.seat l.words;
  callers : All (λ caller. IsOf caller.seat l.words) l.callers.items;
  count : vec_len l.callers ≡ l.counter;
  room : l.count ≤ vec_capacity l.callers;
  whole : IsWhole ((view_of l.seat).names ++ flat_map (λ caller. (view_of caller.seat).names) l.callers.items);
}
