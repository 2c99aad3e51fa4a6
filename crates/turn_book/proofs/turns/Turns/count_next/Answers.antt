-- The count increases by one, and the item is in the log.
use Rattle.std.proofs.Common.{rules, arith, ◌<◌, ap, ◌∙◌}
use Rattle.turn_book.specs.Layout.{count_word_of}
use Rattle.turn_book.specs.Seats.{view_of}
use Rattle.turn_book.specs.TurnViews.{counted}
use Rattle.turn_book.proofs.StepsAllowed.{adds_allowed}
use Rattle.turn_book.proofs.LogLemmas.{heads-with}
use Rattle.turn_book.proofs.SeatLemmas.{seat_put, seat_of}
use Rattle.turn_book.proofs.turns.Turns.count_next.Goals as goal

pub fetch_add-requires : goal.fetch_add-requires
fetch_add-requires g c =
    let below = c.requires.seat.within c.args.shard c.requires.held in
    let within : count_word_of c.args.shard < c.args.self.now.table.shared.table_id.words = omega (arith, c.args.self.now.sized, below) in (
      search rules,
      omega arith,
      rw (c.take-stepper.ensures.1, c.count_word.ensures)
          (adds_allowed g.V.Logged.stands c.args.self.now.table.shared.key.view _ (view_of c.args.seat.now) c.args.shard below c.requires.seat.named _
          g.N.Next.next (g.E.Item.item c.args.item.now) c.requires.next c.requires.held c.requires.room),
    )

pub put-requires : goal.put-requires
put-requires g c =
    let told = c.fetch_add.ensures.2 c.args.shard (g.E.Item.item c.args.item.now) c.count_word.ensures c.requires.next in
    ap (λ m. m.1) told ∙ ap (λ m. m.1) c.take-stepper.ensures.1

pub returns-clause-seat : goal.returns-clause-seat
returns-clause-seat g c =
    let view = view_of c.args.seat.now in
    let item = g.E.Item.item c.args.item.now in
    let told = c.fetch_add.ensures.2 c.args.shard item c.count_word.ensures c.requires.next in
    seat_of c.put.new.self c.args.self.now _ (counted c.args.shard item view) (search rules) c.put.ensures.1
    (ap (λ m. m.0) told ∙ ap (λ m. counted c.args.shard item m.0) c.take-stepper.ensures.1) c.requires.seat.named
    (heads-with view.seen c.args.shard _ ∙ c.requires.seat.heads) c.requires.seat.within

pub returns-clause-view : goal.returns-clause-view
returns-clause-view g c =
    let view = view_of c.args.seat.now in
    let item = g.E.Item.item c.args.item.now in
    let told = c.fetch_add.ensures.2 c.args.shard item c.count_word.ensures c.requires.next in
    seat_put c.put.new.self _ (counted c.args.shard item view) c.put.ensures.1
    (ap (λ m. m.0) told ∙ ap (λ m. counted c.args.shard item m.0) c.take-stepper.ensures.1)
