-- One more seat is joined.
use Rattle.std.proofs.Common.{◌≡◌, ◌++◌, ◌∷◌, [], List, ap, subst, ◌∙◌}
use Rattle.std.proofs.lemmas.List.Elements.{All-pop}
use Rattle.std.specs.List.{flat_map}
use Rattle.shared_seats.specs.SeatNames.{IsWhole}
use Rattle.shared_seats.specs.declared.seat_name.SeatName.{SeatName}
use Rattle.shared_seats.proofs.ManySeats.{flat_map-snoc, whole_joined}
use Rattle.turn_book.specs.Seats.{view_of}
use Rattle.bench_runs.specs.declared.turns.Caller.{Caller}
use Rattle.bench_runs.specs.Ready.{IsReady}
use Rattle.bench_runs.proofs.turns.join_all.Goals as goal

pub loop-caller-preserved : goal.loop-caller-preserved
loop-caller-preserved c =
    let Ready : Caller → Type 0 = λ caller. IsReady c.args.tallies.now caller.seat caller.shard in
    let popped = All-pop Ready c.loop-caller.callers.items c.pop.new.self.items c.pop.result c.pop.ensures.items c.loop-caller.invariant.callers in
    let last : Caller = c.in-Some.caller in
    let names_of : Caller → List SeatName = λ caller. (view_of caller.seat).names in
    let before : c.loop-caller.callers.items ≡ c.pop.new.self.items ++ last ∷ [] = rw c.in-Some.is at c.pop.ensures.items in
    let whole : IsWhole ((view_of c.loop-caller.seat).names ++ (flat_map names_of c.pop.new.self.items ++ names_of last)) =
    subst (λ (names : List SeatName). IsWhole ((view_of c.loop-caller.seat).names ++ names))
    (ap (flat_map names_of) before ∙ flat_map-snoc names_of c.pop.new.self.items last) c.loop-caller.invariant.whole in
    record {
      seat = record { of = c.join.ensures.seat; free = ap (λ view. view.turn) c.join.ensures.view; within = c.loop-caller.invariant.seat.within };
      callers = popped.0;
      whole = rw c.join.ensures.view (whole_joined (view_of c.loop-caller.seat).names (view_of last.seat).names (flat_map names_of c.pop.new.self.items) whole);
    }
