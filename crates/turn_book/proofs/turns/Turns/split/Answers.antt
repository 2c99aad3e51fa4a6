-- A split preserves the invariant.
use Rattle.std.proofs.Common.{rules, arith}
use Rattle.turn_book.specs.Seats.{view_of}
use Rattle.turn_book.proofs.SeatParts.{splits_allowed}
use Rattle.turn_book.proofs.turns.Turns.split.Goals as goal

pub split_seat-new-requires : goal.split_seat-new-requires
split_seat-new-requires g c = (
  search rules,
  omega (arith, c.args.self.now.sized, c.args.self.now.some_shard),
  rw c.take-stepper.ensures.1 (splits_allowed g.V.Logged.stands c.args.self.now.table.shared.key.view _ (view_of c.args.seat.now) c.requires.seat.named),
)
