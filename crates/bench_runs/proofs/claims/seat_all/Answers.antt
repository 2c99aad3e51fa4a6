-- A seat that splits one off for a new caller is whole with all that were split off.
use Rattle.std.proofs.Common.{rules}
use Rattle.std.proofs.lemmas.List.Elements.{All-push}
use Rattle.shared_seats.proofs.ManySeats.{flat_map-snoc, whole_seated}
use Rattle.claim_words.specs.Seats.{view_of, IsOf}
use Rattle.bench_runs.specs.declared.claims.Caller.{Caller}
use Rattle.bench_runs.proofs.claims.seat_all.Goals as goal

pub loop-preserved : goal.loop-preserved
loop-preserved c =
    let Ready : Caller → Type 0 = λ caller. IsOf caller.seat c.args.words.now in
    record {
      seat = search rules;
      callers = rw c.push_reserved.ensures.items (All-push Ready c.loop.callers.items _ c.loop.invariant.callers c.split.ensures.new.0);
      count = search rules;
      room = search rules;
      whole = rw (c.push_reserved.ensures.items, flat_map-snoc, c.split.ensures.seat.1, c.split.ensures.new.1)
          (whole_seated (view_of c.loop.seat).names _ c.loop.seat.named c.loop.invariant.whole);
    }
