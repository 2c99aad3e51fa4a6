-- At the end all values are in their slots, and the whole seat knows all.
use Rattle.std.proofs.Common.{◌≡◌, length, Some, ap, ◌∙◌, sym, subst}
use Rattle.std.proofs.lemmas.List.{length-map}
use Rattle.std.specs.Mem.Slots.{slots_items, slots_counts}
use mathlib.Core.Option.{some}
use lib.ListN.{get_elem?}
use Rattle.turn_book.specs.Seats.{opening_of, view_of}
use Rattle.turn_book.proofs.BeginsAndEnds.{last_full, last_values, last_places}
use Rattle.turn_book.proofs.turns.Turns.close.Goals as goal

pub take_values-requires-clause-full : goal.take_values-requires-clause-full
take_values-requires-clause-full g c =
    let last = c.close_with-closed.ensures.values.2 in
    let here = subst (λ m. get_elem? last.0.views c.into_seat-seat.result.id ≡ some m.0) c.into_seat-seat.ensures.1 last.1.1 in
    let slots = c.close_with-closed.result.slots in
    let many : length (slots_items slots) ≡ length (opening_of c.args.self) =
    sym (slots_counts slots).0 ∙ c.close_with-closed.ensures.counts.1 ∙ c.args.self.slots in (
      c.close_with-closed.ensures.values.1,
      last_full g.V.Logged.stands (opening_of c.args.self) last.0 last.1.0 c.into_seat-seat.result.id (view_of c.args.seat) here c.requires.free
          c.requires.whole (slots_items slots) last.3 many c.requires.seat.named last.4,
    )

pub returns-clause-values : goal.returns-clause-values
returns-clause-values g c =
    let last = c.close_with-closed.ensures.values.2 in
    let here = subst (λ m. get_elem? last.0.views c.into_seat-seat.result.id ≡ some m.0) c.into_seat-seat.ensures.1 last.1.1 in
    let slots = c.close_with-closed.result.slots in
    let values = c.take_values.new.values.items in
    let many : length (slots_items slots) ≡ length (opening_of c.args.self) =
    sym (slots_counts slots).0 ∙ c.close_with-closed.ensures.counts.1 ∙ c.args.self.slots in
    let count : length values ≡ length (slots_items slots) = sym (length-map values Some) ∙ ap length c.take_values.ensures.values in
    last_values g.V.Logged.stands (opening_of c.args.self) last.0 last.1.0 c.into_seat-seat.result.id (view_of c.args.seat) here c.requires.free
    c.requires.whole (slots_items slots) last.3 many c.requires.seat.named last.4 values c.take_values.ensures.values count

pub returns-clause-fronts : goal.returns-clause-fronts
returns-clause-fronts g c =
    let last = c.close_with-closed.ensures.values.2 in
    let here = subst (λ m. get_elem? last.0.views c.into_seat-seat.result.id ≡ some m.0) c.into_seat-seat.ensures.1 last.1.1 in
    (last.1.0.knows c.into_seat-seat.result.id (view_of c.args.seat) here).opened c.requires.seat.named

pub returns-clause-places : goal.returns-clause-places
returns-clause-places g c =
    let last = c.close_with-closed.ensures.values.2 in
    let here = subst (λ m. get_elem? last.0.views c.into_seat-seat.result.id ≡ some m.0) c.into_seat-seat.ensures.1 last.1.1 in
    last_places g.V.Logged.stands (opening_of c.args.self) last.0 last.1.0 c.into_seat-seat.result.id (view_of c.args.seat) here c.requires.free
    c.requires.whole
