-- A join preserves the invariant, and what either seat had seen is a prefix of what the joined one has.
use Rattle.std.proofs.Common.{rules, arith, ◌≡◌, [], sym, ap, ◌∙◌}
use Rattle.turn_book.specs.Seats.{view_of, opening_of}
use Rattle.turn_book.specs.TurnViews.{joined, joining, settled}
use Rattle.turn_book.proofs.LogLemmas.{heads-longer}
use Rattle.turn_book.proofs.StepsAllowed.{learns_allowed}
use Rattle.turn_book.proofs.SeatParts.{joins_allowed, joined-named, joined_fronts}
use Rattle.turn_book.proofs.SeatLemmas.{seat_put, seat_of}
use Rattle.turn_book.proofs.turns.Turns.join.Goals as goal

pub join_seat-requires : goal.join_seat-requires
join_seat-requires g c = (
  search rules,
  search rules,
  ap (λ m. m.1) c.into_seat.ensures.1,
  omega (arith, c.args.self.now.sized, c.args.self.now.some_shard),
  rw (c.take-stepper.ensures.1, c.into_seat.ensures.1)
      (joins_allowed g.V.Logged.stands c.args.self.now.table.shared.key.view _ (view_of c.args.seat.now) _ (view_of c.args.other)
      c.requires.seats.0.named c.requires.seats.1.named c.requires.free.0 c.requires.free.1),
)

pub load-requires : goal.load-requires
load-requires g c =
    let view = view_of c.args.seat.now in
    let other = view_of c.args.other in
    let both = joining view other in
    let me : c.join_seat.new.seat.me ≡ (both, []) = c.join_seat.ensures.2
    ∙ ap (λ m. (joining m.0 c.into_seat.result.me.0, m.1)) c.take-stepper.ensures.1 ∙ ap (λ m. (joining view m.0, [])) c.into_seat.ensures.1 in (
      search rules,
      omega (arith, c.args.self.now.sized, c.args.self.now.some_shard, c.turn_word.ensures),
      rw me (learns_allowed g.V.Logged.stands (opening_of c.args.self.now) _ both 0 c.args.self.now.some_shard
          (joined-named view other c.requires.seats.0.named) _ _),
    )

pub put-requires : goal.put-requires
put-requires g c =
    ap (λ m. m.1) c.load.ensures.2.0 ∙ ap (λ m. m.1) c.join_seat.ensures.2 ∙ ap (λ m. m.1) c.take-stepper.ensures.1

pub returns-clause-seat : goal.returns-clause-seat
returns-clause-seat g c =
    let view = view_of c.args.seat.now in
    let other = view_of c.args.other in
    let both = joined view other in
    let is : c.load.new.seat.me.0 ≡ both = ap (λ m. m.0) c.load.ensures.2.0 ∙ ap (λ m. settled m.0) c.join_seat.ensures.2
    ∙ ap (λ m. joined m.0 c.into_seat.result.me.0) c.take-stepper.ensures.1 ∙ ap (λ m. joined view m.0) c.into_seat.ensures.1 in
    let of = c.requires.seats.0 in
    seat_of c.put.new.self c.args.self.now _ both (search rules) c.put.ensures.1 is (joined-named view other of.named)
    (heads-longer view.seen other.seen (of.heads ∙ sym c.requires.seats.1.heads) ∙ of.heads) (λ shard apart. absurd (cc))

pub returns-clause-view : goal.returns-clause-view
returns-clause-view g c =
    let view = view_of c.args.seat.now in
    let other = view_of c.args.other in
    let is = ap (λ m. m.0) c.load.ensures.2.0 ∙ ap (λ m. settled m.0) c.join_seat.ensures.2
    ∙ ap (λ m. joined m.0 c.into_seat.result.me.0) c.take-stepper.ensures.1 ∙ ap (λ m. joined view m.0) c.into_seat.ensures.1 in
    seat_put c.put.new.self _ (joined view other) c.put.ensures.1 is

pub returns-clause-fronts : goal.returns-clause-fronts
returns-clause-fronts g c =
    let view = view_of c.args.seat.now in
    let other = view_of c.args.other in
    let is = ap (λ m. m.0) c.load.ensures.2.0 ∙ ap (λ m. settled m.0) c.join_seat.ensures.2
    ∙ ap (λ m. joined m.0 c.into_seat.result.me.0) c.take-stepper.ensures.1 ∙ ap (λ m. joined view m.0) c.into_seat.ensures.1 in
    let seat : view_of c.put.new.self ≡ joined view other = seat_put c.put.new.self _ (joined view other) c.put.ensures.1 is in
    let heard : c.join_seat.new.seat.me.0 ≡ joining view other = ap (λ m. m.0) c.join_seat.ensures.2
    ∙ ap (λ m. joining m.0 c.into_seat.result.me.0) c.take-stepper.ensures.1 ∙ ap (λ m. joining view m.0) c.into_seat.ensures.1 in
    rw seat (joined_fronts view other (rw heard at c.load.ensures.2.1))
