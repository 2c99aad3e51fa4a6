-- After any cards and rounds, the caller's seat stays at the table, with its names.
use Rattle.std.proofs.Common.{◌≡◌}
use Rattle.claim_words.specs.Seats.{view_of, IsOf}
use Rattle.bench_runs.proofs.claims.claim_cards.Given as goal

abbrev pub invariant-loop-card : goal.invariant-loop-card
invariant-loop-card l = record {
  seat : IsOf l.caller.seat l.words;
  names : (view_of l.caller.seat).names ≡ (view_of l.initial.caller.seat).names;
}

abbrev pub invariant-loop : goal.invariant-loop
invariant-loop l = record {
  seat : IsOf l.caller.seat l.words;
  names : (view_of l.caller.seat).names ≡ (view_of l.initial.caller.seat).names;
}
