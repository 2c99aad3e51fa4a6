-- Concurrent claims leave each seat its names, so all seats together are still whole.
use Rattle.std.proofs.Common.{ap, length, arith}
use Rattle.shared_seats.proofs.ManySeats.{whole_lent}
use Rattle.claim_words.specs.Seats.{view_of}
use Rattle.bench_runs.specs.declared.claims.Caller.{Caller}
use Rattle.bench_runs.proofs.claims.wins.Goals as goal

pub join_all-count-requires-clause-whole : goal.join_all-count-requires-clause-whole
join_all-count-requires-clause-whole g c =
    whole_lent (λ (caller : Caller). (view_of caller.seat).names) (view_of c.seat_all.new.seat).names c.seat_all.new.callers.len
    c.seat_all.new.callers.items c.as_mut_slice.result.now c.claim_at_once.new.callers c.as_mut_slice.ensures.value
    (omega (arith, ap length c.as_mut_slice.ensures.value)) (omega arith) c.claim_at_once.ensures.names c.seat_all.ensures.whole
