-- The callers so far are ready, and all seats are whole together.
use Rattle.std.proofs.Common.{◌≡◌, ◌≤◌, ◌++◌, All, vec_len, vec_capacity}
use Rattle.std.specs.List.{flat_map}
use Rattle.shared_seats.specs.SeatNames.{IsWhole}
use Rattle.turn_book.specs.Seats.{view_of}
use Rattle.bench_runs.specs.Ready.{IsReady}
use Rattle.bench_runs.proofs.turns.seat_all.Given as goal

abbrev pub invariant-loop-number : goal.invariant-loop-number
invariant-loop-number l = record {
  seat : IsReady l.tallies l.seat 0;
  callers : All (λ caller. IsReady l.tallies caller.seat caller.shard) l.callers.items;
  count : vec_len l.callers ≡ l.number;
  room : l.run.threads ≤ vec_capacity l.callers;
  whole : IsWhole ((view_of l.seat).names ++ flat_map (λ caller. (view_of caller.seat).names) l.callers.items);
}
