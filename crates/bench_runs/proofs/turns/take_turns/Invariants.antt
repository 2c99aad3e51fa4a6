-- After each turn the caller is ready for the next.
use Rattle.std.proofs.Common.{◌≡◌}
use Rattle.turn_book.specs.Seats.{view_of}
use Rattle.bench_runs.specs.Ready.{IsReady}
use Rattle.bench_runs.proofs.turns.take_turns.Given as goal

abbrev pub invariant-loop : goal.invariant-loop
invariant-loop g l = record {
  caller : IsReady l.tallies l.caller.seat l.caller.shard;
  names : (view_of l.caller.seat).names ≡ (view_of l.initial.caller.seat).names;
}
