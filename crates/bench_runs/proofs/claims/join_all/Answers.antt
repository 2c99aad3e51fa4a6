-- A seat into which the last caller's is joined is whole with the callers that are left.
use Rattle.std.proofs.Common.{rules, ◌≡◌, ◌++◌, ◌∷◌, []}
use Rattle.std.proofs.lemmas.List.Elements.{All-pop}
use Rattle.shared_seats.proofs.ManySeats.{whole_popped}
use Rattle.claim_words.specs.Seats.{view_of, IsOf}
use Rattle.bench_runs.specs.declared.claims.Caller.{Caller}
use Rattle.bench_runs.proofs.claims.join_all.Goals as goal

pub loop-caller-preserved : goal.loop-caller-preserved
loop-caller-preserved c =
    let Ready : Caller → Type 0 = λ caller. IsOf caller.seat c.args.words.now in
    let popped = All-pop Ready c.loop-caller.callers.items c.pop.new.self.items c.pop.result c.pop.ensures.items c.loop-caller.invariant.callers in
    let last : Caller = c.in-Some.caller in
    let before : c.loop-caller.callers.items ≡ c.pop.new.self.items ++ last ∷ [] = rw c.in-Some.is at c.pop.ensures.items in
    record {
      seat = search rules;
      callers = popped.0;
      whole = rw c.join.ensures.1
          (whole_popped (λ (caller : Caller). (view_of caller.seat).names) (view_of c.loop-caller.seat).names c.loop-caller.callers.items c.pop.new.self.items
          last before c.loop-caller.invariant.whole);
    }
