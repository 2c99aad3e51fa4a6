-- A seat into which the last caller's is joined has tried what that caller tried, and is whole with those left.
use Rattle.std.proofs.Common.{rules, ◌≡◌, ◌++◌, ◌∷◌, []}
use Rattle.shared_seats.proofs.Totals.{map-snoc}
use Rattle.std.proofs.lemmas.List.Elements.{All-pop}
use Rattle.claim_words.specs.declared.layout.TheConstants.{COUNTERS}
use Rattle.sharing_tests.specs.declared.claims.Caller.{Caller}
use Rattle.claim_words.specs.Seats.{view_of, IsOf}
use Rattle.claim_words.specs.Contest.{HasTried}
use Rattle.claim_words.proofs.ContestLemmas.{have_tried_joined}
use Rattle.shared_seats.proofs.ManySeats.{whole_popped}
use Rattle.sharing_tests.proofs.claims.join_all.Goals as goal

pub loop-caller-preserved : goal.loop-caller-preserved
loop-caller-preserved c =
    let Done : Caller → Type 0 = λ caller. IsOf caller.seat c.args.words.now × HasTried COUNTERS caller.won.items (view_of caller.seat) in
    let popped = All-pop Done c.loop-caller.callers.items c.pop.new.self.items c.pop.result c.pop.ensures.items c.loop-caller.invariant.callers in
    let last : Caller = c.in-Some.caller in
    let done : Done last = rw c.in-Some.is at popped.1 in
    let before : c.loop-caller.callers.items ≡ c.pop.new.self.items ++ last ∷ [] = rw c.in-Some.is at c.pop.ensures.items in
    record {
      seat = search rules;
      tried = rw (c.push_reserved.ensures.items, map-snoc, c.join.ensures.1)
          (have_tried_joined _ last.won.items (view_of c.loop-caller.seat) (view_of last.seat) c.loop-caller.invariant.tried done.1);
      callers = popped.0;
      count = search rules;
      room = search rules;
      whole = rw c.join.ensures.1
          (whole_popped (λ (caller : Caller). (view_of caller.seat).names) (view_of c.loop-caller.seat).names c.loop-caller.callers.items c.pop.new.self.items
          last before c.loop-caller.invariant.whole);
    }
