-- The item that is counted is the one that was passed.
use Rattle.std.proofs.Common.{Some}
use Rattle.turn_book.proofs.turns.Turns.added.Given as goal

abbrev pub ghosts-count_next : goal.ghosts-count_next
ghosts-count_next g a = record { next = Some (g.E.Item.item a.item.now) }
