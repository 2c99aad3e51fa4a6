-- The caller's seat stays at the table, with its names.
use Rattle.std.proofs.Common.{◌≡◌}
use Rattle.claim_words.specs.Seats.{view_of, IsOf}
use Rattle.bench_runs.proofs.claims.claim_card.Given as goal

abbrev pub invariant-loop-counter : goal.invariant-loop-counter
invariant-loop-counter l = record {
  seat : IsOf l.caller.seat l.words;
  names : (view_of l.caller.seat).names ≡ (view_of l.initial.caller.seat).names;
}
