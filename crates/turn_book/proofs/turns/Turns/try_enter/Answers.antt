-- The turn is taken with the value, and the empty slot given back.
use Rattle.std.proofs.Common.{rules, arith, ◌<◌, ◌∷◌, Some, None, refl, sym, ap, ◌∙◌, subst}
use Rattle.turn_book.specs.declared.view.Turn.TheVariants.{Inside}
use Rattle.turn_book.specs.Layout.{turn_word_of, count_word_of}
use Rattle.std.proofs.Common.{IsSome}
use Rattle.std.proofs.lemmas.Option.{same_Some}
use Rattle.turn_book.specs.Logs.{items_at, IsFront, StandsAt}
use Rattle.turn_book.specs.Seats.{view_of}
use Rattle.turn_book.specs.TurnViews.{moving, entered}
use Rattle.turn_book.proofs.StepsAllowed.{takes_allowed, looks_allowed}
use Rattle.turn_book.proofs.LogLemmas.{heads-with}
use Rattle.turn_book.proofs.SeatLemmas.{seat_put, seat_of, one_slot, slot_value, new_slot, inside_only, entered_lem, seen_within}
use Rattle.turn_book.proofs.turns.Turns.try_enter.Goals as goal

pub compare_exchange-found-requires : goal.compare_exchange-found-requires
compare_exchange-found-requires g c =
    let view = view_of c.args.seat.now in
    let within : turn_word_of c.args.shard < c.args.self.now.table.shared.table_id.words = omega (arith, c.args.self.now.sized, c.requires.shard) in (
      search rules,
      omega arith,
      rw (c.take-stepper.ensures.1, c.turn_word.ensures)
          (takes_allowed g.V.Logged.stands c.args.self.now.table.shared.key.view _ view c.args.shard c.requires.shard c.requires.seat.named _ c.requires.free),
    )

pub put-requires : goal.put-requires
put-requires g c =
    let same = (c.compare_exchange-found.ensures.2 c.args.shard c.turn_word.ensures).1 c.if-found-ne-FREE.true in
    ap (λ m. m.1) same ∙ ap (λ m. m.1) c.take-stepper.ensures.1

pub returns-then-found-ne-FREE-clause-seat : goal.returns-then-found-ne-FREE-clause-seat
returns-then-found-ne-FREE-clause-seat g c =
    let same = (c.compare_exchange-found.ensures.2 c.args.shard c.turn_word.ensures).1 c.if-found-ne-FREE.true in
    seat_of c.put.new.self c.args.self.now _ (view_of c.args.seat.now) (search rules) c.put.ensures.1
    (ap (λ m. m.0) same ∙ ap (λ m. m.0) c.take-stepper.ensures.1) c.requires.seat.named c.requires.seat.heads c.requires.seat.within

pub returns-then-found-ne-FREE-clause-same : goal.returns-then-found-ne-FREE-clause-same
returns-then-found-ne-FREE-clause-same g c =
    let same = (c.compare_exchange-found.ensures.2 c.args.shard c.turn_word.ensures).1 c.if-found-ne-FREE.true in
    seat_put c.put.new.self _ (view_of c.args.seat.now) c.put.ensures.1 (ap (λ m. m.0) same ∙ ap (λ m. m.0) c.take-stepper.ensures.1)

pub exchange-value-requires : goal.exchange-value-requires
exchange-value-requires g c =
    let won = (c.compare_exchange-found.ensures.2 c.args.shard c.turn_word.ensures).0 c.if-found-ne-FREE.false in
    (search rules, one_slot _ c.args.shard (Some won.1) (won.4 ∙ ap (λ r. (c.args.shard, Some won.1) ∷ r) (ap (λ m. m.1) c.take-stepper.ensures.1)))

pub load-requires : goal.load-requires
load-requires g c =
    let view = view_of c.args.seat.now in
    let won = (c.compare_exchange-found.ensures.2 c.args.shard c.turn_word.ensures).0 c.if-found-ne-FREE.false in
    let slots = won.4 ∙ ap (λ r. (c.args.shard, Some won.1) ∷ r) (ap (λ m. m.1) c.take-stepper.ensures.1) in
    let moves = won.3 ∙ ap (λ m. moving c.args.shard won.0 m.0) c.take-stepper.ensures.1 in
    let me = new_slot _ _ c.args.shard (moving c.args.shard won.0 view) (Some won.1) None moves slots c.exchange-value.ensures.3 in
    let within : count_word_of c.args.shard < c.args.self.now.table.shared.table_id.words = omega (arith, c.args.self.now.sized, c.requires.shard) in
    let slot : c.args.shard < c.args.self.now.table.shared.table_id.slots = omega (arith, c.args.self.now.slots, c.requires.shard) in (
      search rules,
      omega arith,
      rw (me, c.count_word.ensures)
          (looks_allowed g.V.Logged.stands c.args.self.now.table.shared.key.view _ (moving c.args.shard won.0 view) c.args.shard c.requires.shard
          c.requires.seat.named _ slot refl),
    )

pub put-requires-2 : goal.put-requires-2
put-requires-2 g c = ap (λ m. m.1) (c.load.ensures.2 c.args.shard c.count_word.ensures).0

pub unwrap-requires : goal.unwrap-requires
unwrap-requires g c =
    let won = (c.compare_exchange-found.ensures.2 c.args.shard c.turn_word.ensures).0 c.if-found-ne-FREE.false in
    let slots = won.4 ∙ ap (λ r. (c.args.shard, Some won.1) ∷ r) (ap (λ m. m.1) c.take-stepper.ensures.1) in
    subst IsSome (sym (slot_value _ c.args.shard (Some won.1) _ slots c.exchange-value.ensures.2)) refl

pub returns-clause-seat : goal.returns-clause-seat
returns-clause-seat g c =
    let view = view_of c.args.seat.now in
    let won = (c.compare_exchange-found.ensures.2 c.args.shard c.turn_word.ensures).0 c.if-found-ne-FREE.false in
    let slots = won.4 ∙ ap (λ r. (c.args.shard, Some won.1) ∷ r) (ap (λ m. m.1) c.take-stepper.ensures.1) in
    let moves = won.3 ∙ ap (λ m. moving c.args.shard won.0 m.0) c.take-stepper.ensures.1 in
    let me = new_slot _ _ c.args.shard (moving c.args.shard won.0 view) (Some won.1) None moves slots c.exchange-value.ensures.3 in
    seat_of c.put-2.new.self c.args.self.now _ (entered c.args.shard won.0 view) (search rules) c.put-2.ensures.1
    (ap (λ m. m.0) (c.load.ensures.2 c.args.shard c.count_word.ensures).0 ∙ ap (λ m. record m.0 { turn = Inside c.args.shard }) me)
    c.requires.seat.named (heads-with view.seen c.args.shard won.0 ∙ c.requires.seat.heads)
    (inside_only _ c.args.shard c.requires.shard)

pub returns-clause-entered : goal.returns-clause-entered
returns-clause-entered g c =
    let view = view_of c.args.seat.now in
    let won = (c.compare_exchange-found.ensures.2 c.args.shard c.turn_word.ensures).0 c.if-found-ne-FREE.false in
    let slots = won.4 ∙ ap (λ r. (c.args.shard, Some won.1) ∷ r) (ap (λ m. m.1) c.take-stepper.ensures.1) in
    let moves = won.3 ∙ ap (λ m. moving c.args.shard won.0 m.0) c.take-stepper.ensures.1 in
    let me = new_slot _ _ c.args.shard (moving c.args.shard won.0 view) (Some won.1) None moves slots c.exchange-value.ensures.3 in
    let value = slot_value _ c.args.shard (Some won.1) _ slots c.exchange-value.ensures.2 in
    let is = seat_put c.put-2.new.self _ (entered c.args.shard won.0 view) c.put-2.ensures.1
    (ap (λ m. m.0) (c.load.ensures.2 c.args.shard c.count_word.ensures).0 ∙ ap (λ m. record m.0 { turn = Inside c.args.shard }) me) in
    entered_lem g.V.Logged.stands view _ c.args.shard won.0 won.1 c.unwrap.result
    (seen_within c.args.seat.now c.args.self.now c.args.shard c.requires.seat c.requires.shard) is
    (subst (λ m. IsFront (items_at m.0.seen c.args.shard) won.0) c.take-stepper.ensures.1 won.2)
    (subst (λ u. StandsAt g.V.Logged.stands won.1 u.seen c.args.shard) moves won.5)
    (same_Some _ _ (sym c.unwrap.ensures ∙ value))
