-- The slot is taken empty, and given back with the value and the turn.
use Rattle.std.proofs.Common.{rules, arith, ◌≡◌, ◌<◌, ◌∷◌, Some, None, refl, sym, ap, ◌∙◌}
use Rattle.turn_book.specs.declared.view.Turn.TheVariants.{Moving}
use Rattle.turn_book.specs.Layout.{turn_word_of}
use Rattle.turn_book.specs.Seats.{view_of}
use Rattle.turn_book.specs.TurnViews.{free}
use Rattle.turn_book.proofs.StepsAllowed.{retakes_allowed, releases_allowed}
use Rattle.turn_book.proofs.SeatLemmas.{seat_put, seat_of, one_slot, slot_value, new_slot}
use Rattle.turn_book.proofs.turns.Turns.leave.Goals as goal

pub load-requires : goal.load-requires
load-requires g c =
    let below = c.requires.seat.within c.args.shard c.requires.held in
    let within : turn_word_of c.args.shard < c.args.self.now.table.shared.table_id.words = omega (arith, c.args.self.now.sized, below) in (
      search rules,
      omega arith,
      rw (c.take-stepper.ensures.1, c.turn_word-word.ensures)
          (retakes_allowed g.V.Logged.stands c.args.self.now.table.shared.key.view _ (view_of c.args.seat.now) c.args.shard below c.requires.seat.named _
          c.requires.held),
    )

pub exchange-empty-requires : goal.exchange-empty-requires
exchange-empty-requires g c =
    let told = c.load.ensures.2 c.args.shard c.turn_word-word.ensures in
    (search rules, one_slot _ c.args.shard None (ap (λ m. m.1) told ∙ ap (λ m. (c.args.shard, None) ∷ m.1) c.take-stepper.ensures.1))

pub unreachable-requires : goal.unreachable-requires
unreachable-requires g c =
    let told = c.load.ensures.2 c.args.shard c.turn_word-word.ensures in
    let slots = ap (λ m. m.1) told ∙ ap (λ m. (c.args.shard, None) ∷ m.1) c.take-stepper.ensures.1 in
    let none = slot_value _ c.args.shard None _ slots c.exchange-empty.ensures.2 in
    let apart : None ≡ Some c.in_default.field-0 = sym none ∙ c.in_default.is in
    cc

pub store-requires : goal.store-requires
store-requires g c =
    let view = view_of c.args.seat.now in
    let below = c.requires.seat.within c.args.shard c.requires.held in
    let told = c.load.ensures.2 c.args.shard c.turn_word-word.ensures in
    let slots = ap (λ m. m.1) told ∙ ap (λ m. (c.args.shard, None) ∷ m.1) c.take-stepper.ensures.1 in
    let moves = ap (λ m. m.0) told ∙ ap (λ m. record m.0 { turn = Moving c.args.shard }) c.take-stepper.ensures.1 in
    let me = new_slot _ _ c.args.shard (record view { turn = Moving c.args.shard }) None (Some c.args.value) moves slots c.exchange-empty.ensures.3 in
    let within : turn_word_of c.args.shard < c.args.self.now.table.shared.table_id.words = omega (arith, c.args.self.now.sized, below) in
    let slot : c.args.shard < c.args.self.now.table.shared.table_id.slots = omega (arith, c.args.self.now.slots, below) in (
      search rules,
      omega arith,
      rw (me, c.turn_word-word.ensures)
          (releases_allowed g.V.Logged.stands c.args.self.now.table.shared.key.view _ (record view { turn = Moving c.args.shard }) c.args.shard below
          c.requires.seat.named _ c.args.value slot refl c.requires.value),
    )

pub put-requires : goal.put-requires
put-requires g c = ap (λ m. m.1) (c.store.ensures.2 c.args.shard c.turn_word-word.ensures)

pub returns-clause-seat : goal.returns-clause-seat
returns-clause-seat g c =
    let told = c.load.ensures.2 c.args.shard c.turn_word-word.ensures in
    let moves = ap (λ m. m.0) told ∙ ap (λ m. record m.0 { turn = Moving c.args.shard }) c.take-stepper.ensures.1 in
    let is = ap (λ m. m.0) (c.store.ensures.2 c.args.shard c.turn_word-word.ensures) ∙ ap (λ m. free m.0) c.exchange-empty.ensures.3 ∙ ap free moves in
    seat_of c.put.new.self c.args.self.now _ (free (view_of c.args.seat.now)) (search rules) c.put.ensures.1 is c.requires.seat.named c.requires.seat.heads
    (λ other apart. absurd (cc))

pub returns-clause-view : goal.returns-clause-view
returns-clause-view g c =
    let told = c.load.ensures.2 c.args.shard c.turn_word-word.ensures in
    let moves = ap (λ m. m.0) told ∙ ap (λ m. record m.0 { turn = Moving c.args.shard }) c.take-stepper.ensures.1 in
    let is = ap (λ m. m.0) (c.store.ensures.2 c.args.shard c.turn_word-word.ensures) ∙ ap (λ m. free m.0) c.exchange-empty.ensures.3 ∙ ap free moves in
    seat_put c.put.new.self _ (free (view_of c.args.seat.now)) c.put.ensures.1 is
