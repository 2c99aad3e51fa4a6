-- One more seat is split off.
use Rattle.std.proofs.Common.{rules, arith, ◌%◌, ◌<◌, ap, ◌∙◌}
use Rattle.std.proofs.Math.Nat.{mod-lt}
use Rattle.std.proofs.lemmas.List.Elements.{All-push}
use Rattle.shared_seats.proofs.ManySeats.{flat_map-snoc, whole_seated}
use Rattle.turn_book.specs.Seats.{view_of, shards_of}
use Rattle.bench_runs.specs.declared.turns.Caller.{Caller}
use Rattle.bench_runs.specs.Ready.{IsReady}
use Rattle.bench_runs.proofs.turns.seat_all.Goals as goal

pub loop-number-preserved : goal.loop-number-preserved
loop-number-preserved c =
    let Ready : Caller → Type 0 = λ caller. IsReady c.args.tallies.now caller.seat caller.shard in
    let ready = c.loop-number.invariant.seat in
    let parent = c.split.ensures.seat in
    let child = c.split.ensures.new in
    let dealt : c.loop-number.number % c.args.run.now.shards < shards_of c.args.tallies.now =
    omega (arith, c.requires.shards, mod-lt c.loop-number.number c.requires.shards.0) in
    record {
      seat = record { of = parent.0; free = ap (λ view. view.turn) parent.1 ∙ ready.free; within = ready.within };
      callers = rw c.push_reserved.ensures.items
          (All-push Ready c.loop-number.callers.items _ c.loop-number.invariant.callers
          (record { of = child.0; free = ap (λ view. view.turn) child.1; within = dealt }));
      count = search rules;
      room = search rules;
      whole = rw (c.push_reserved.ensures.items, flat_map-snoc, parent.1, child.1)
          (whole_seated (view_of c.loop-number.seat).names _ ready.of.named c.loop-number.invariant.whole);
    }
