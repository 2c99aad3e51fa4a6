-- The new log is the log before with the item appended.
use Rattle.std.proofs.Common.{ap, ◌∙◌}
use Rattle.turn_book.specs.Logs.{items_at}
use Rattle.turn_book.specs.Seats.{view_of}
use Rattle.turn_book.proofs.LogLemmas.{items-with_same}
use Rattle.turn_book.proofs.SeatLemmas.{seen_within}
use Rattle.turn_book.proofs.turns.Turns.added.Goals as goal

pub returns-clause-log : goal.returns-clause-log
returns-clause-log g c =
    let below = c.requires.seat.within c.args.shard c.requires.held in
    ap (λ view. items_at view.seen c.args.shard) c.count_next.ensures.view
    ∙ items-with_same (view_of c.args.seat.now).seen c.args.shard _ (seen_within c.args.seat.now c.args.self.now c.args.shard c.requires.seat below)
