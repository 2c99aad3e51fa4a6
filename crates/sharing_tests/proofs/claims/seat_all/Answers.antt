-- A caller that is seated with an empty list has tried nothing, and all seats together stay whole.
use Rattle.std.proofs.Common.{rules, ◌≡◌, ◌≤◌, ℕ, [], Vec, vec_capacity}
use Rattle.std.proofs.Common.{Global}
use Rattle.std.proofs.lemmas.List.Elements.{All-pop, All-push}
use Rattle.claim_words.specs.declared.layout.TheConstants.{COUNTERS}
use Rattle.sharing_tests.specs.declared.claims.Caller.{Caller}
use Rattle.claim_words.specs.Seats.{view_of, IsOf}
use Rattle.claim_words.specs.Contest.{HasTried}
use Rattle.claim_words.proofs.ContestLemmas.{tried_none, have_tried_parent}
use Rattle.shared_seats.proofs.ManySeats.{flat_map-snoc, whole_seated}
use Rattle.sharing_tests.proofs.claims.seat_all.Goals as goal

pub loop-won-preserved : goal.loop-won-preserved
loop-won-preserved c =
    let Empty : Vec ℕ Global → Type 0 = λ list. (list.items ≡ []) × (COUNTERS ≤ vec_capacity list) in
    let Ready : Caller → Type 0 =
    λ caller. IsOf caller.seat c.args.words.now × HasTried 0 caller.won.items (view_of caller.seat) × (caller.won.items ≡ [])
    × (COUNTERS ≤ vec_capacity caller.won) in
    let popped = All-pop Empty c.loop-won.lists.items c.pop.new.self.items c.pop.result c.pop.ensures.items c.loop-won.invariant.lists in
    let empty : Empty c.in-Some.won = rw c.in-Some.is at popped.1 in
    let tried : HasTried 0 c.in-Some.won.items (view_of c.split.result) = rw (empty.0, c.split.ensures.new.1) (tried_none _) in
    record {
      seat = search rules;
      new = rw c.split.ensures.seat.1 (have_tried_parent _ c.loop-won.invariant.new);
      lists = popped.0;
      callers = rw c.push_reserved.ensures.items
          (All-push Ready c.loop-won.callers.items _ c.loop-won.invariant.callers (c.split.ensures.new.0, tried, empty.0, empty.1));
      count = search rules;
      room = search rules;
      whole = rw (c.push_reserved.ensures.items, flat_map-snoc, c.split.ensures.seat.1, c.split.ensures.new.1)
          (whole_seated (view_of c.loop-won.seat).names _ c.loop-won.seat.named c.loop-won.invariant.whole);
    }
