-- One more seat is split off.
use Rattle.std.proofs.Common.{rules, ◌≡◌, ◌≤◌, ℕ, [], Vec, vec_capacity, Global, sym, refl, ap, ◌∙◌, subst}
use Rattle.std.proofs.lemmas.List.Elements.{All-pop, All-push}
use Rattle.shared_seats.proofs.ManySeats.{flat_map-snoc, whole_seated}
use Rattle.sharing_tests.specs.declared.turns.TheConstants.{ITEMS}
use Rattle.sharing_tests.specs.declared.turns.Caller.{Caller}
use Rattle.turn_book.specs.Seats.{view_of}
use Rattle.turn_book.specs.Counting.{HasAdded, IsReady}
use Rattle.sharing_tests.proofs.turns.seat_all.Goals as goal

pub loop-places-preserved : goal.loop-places-preserved
loop-places-preserved c =
    let Empty : Vec (ℕ × ℕ) Global → Type 0 = λ list. (list.items ≡ []) × (ITEMS ≤ vec_capacity list) in
    let Ready : Caller → Type 0 =
    λ caller. IsReady c.args.tallies.now caller.seat caller.places.items × (caller.places.items ≡ []) × (ITEMS ≤ vec_capacity caller.places) in
    let popped = All-pop Empty c.loop-places.lists.items c.pop.new.self.items c.pop.result c.pop.ensures.items c.loop-places.invariant.lists in
    let empty : Empty c.in-Some.places = rw c.in-Some.is at popped.1 in
    let ready = c.loop-places.invariant.ready in
    let parent = c.split.ensures.seat in
    let child = c.split.ensures.new in
    record {
      ready = record {
        of = parent.0;
        free = ap (λ view. view.turn) parent.1 ∙ ready.free;
        added = subst (HasAdded []) (sym parent.1) ready.added;
      };
      lists = popped.0;
      callers = rw c.push_reserved.ensures.items
          (All-push Ready c.loop-places.callers.items _ c.loop-places.invariant.callers (
            record {
              of = child.0;
              free = ap (λ view. view.turn) child.1;
              added = subst (HasAdded c.in-Some.places.items) (sym child.1) (rw empty.0 (λ shard place. refl));
            },
            empty.0,
            empty.1,
          ));
      count = search rules;
      room = search rules;
      whole = rw (c.push_reserved.ensures.items, flat_map-snoc, parent.1, child.1)
          (whole_seated (view_of c.loop-places.seat).names _ ready.of.named c.loop-places.invariant.whole);
    }
